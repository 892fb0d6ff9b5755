-- A step of a walk up, from a group to its parent.
use Rattle.std.proofs.Common.{◌≡◌, ℕ, zero, suc, ◌+◌, ◌-◌, ◌<◌, ◌≤◌, inl, inr, true, [], ◌∷◌, length, take, IsSome, refl, sym, ap, ◌∙◌, arith}
use Rattle.std.proofs.lemmas.Bool.{cases_lt}
use Rattle.std.proofs.lemmas.List.{length-take-le}
use Rattle.std.proofs.Math.Seq.{take-length}
use Rattle.std.specs.FinMap as fin
use Rattle.flat_model.specs.Path.{Path, parent, at_or_below}
use Rattle.flat_model.proofs.PathLaws.{take_above}
use Rattle.group_tree.specs.Groups.{Groups}
use Rattle.snzi_tokens.specs.Listed.{one_at}
use Rattle.pids_charge.specs.GroupRows.{IsOfGroup}
use Rattle.pids_charge.specs.Lists.{slot_at, row_at}
use Rattle.pids_charge.specs.Recount.{chain_at, SlotsBelow}

take_short : (n : ℕ) (p : Path) → take n (take (suc n) p) ≡ take n p
take_short zero p = refl
take_short (suc n) [] = refl
take_short (suc n) (x ∷ p) = ap (λ (q : Path). x ∷ q) (take_short n p)

parent_take : (p : Path) (n : ℕ) → suc n ≤ length p → parent (take (suc n) p) ≡ take n p
parent_take p n l =
    let len = length-take-le (suc n) p l in
    let k : length (take (suc n) p) - 1 ≡ n = omega (arith, len) in
    ap (λ (m : ℕ). take m (take (suc n) p)) k ∙ take_short n p

-- the slot of the parent of one of the groups from p upward; the root's is its own
pub parent_of_front : (tree : Groups) (p : Path) (n : ℕ) → row_at tree (parent (take (length p - n) p)) ≡ row_at tree (take (length p - (n + 1)) p)
parent_of_front tree p n = by (length p - n) (length p - (n + 1)) (omega arith) (omega arith)
  where
    by : (k j : ℕ) → k ≤ length p → j ≡ k - 1 → row_at tree (parent (take k p)) ≡ row_at tree (take j p)
    by zero j few e = ap (λ (i : ℕ). row_at tree (take i p)) (sym e)
    by (suc k) j few e = ap (row_at tree) (parent_take p k few) ∙ ap (λ (i : ℕ). row_at tree (take i p)) (omega (arith, e))

-- below the root
pub own_slot : (tree : Groups) (q : Path) → 0 < length q → row_at tree q ≡ suc (slot_at tree q)
own_slot tree [] pos = absurd (omega (arith, pos))
own_slot tree (n ∷ q) pos = refl

-- a walk begins at the path's own group
pub at_own : (tree : Groups) (p : Path) (at : ℕ) → at ≡ row_at tree p → at ≡ row_at tree (take (length p - 0) p)
at_own tree p at e =
    let whole : length p ≡ length p - 0 = omega arith in
    e ∙ ap (row_at tree) (sym (take-length p)) ∙ ap (λ (n : ℕ). row_at tree (take n p)) whole

root_alone : (tree : Groups) (q : Path) → row_at tree q ≡ 0 → length q ≡ 0
root_alone tree [] e = refl
root_alone tree (n ∷ q) e = absurd (omega (arith, e))

-- and ends at the root
pub at_root : (tree : Groups) (p : Path) (at n : ℕ) → n ≤ length p → at ≡ row_at tree (take n p) → at ≡ 0 → n ≡ 0
at_root tree p at n few here e = omega (arith, root_alone tree (take n p) (sym here ∙ e), length-take-le n p few)

-- the group at the first n names of the path
pub of_group : (tree : Groups) (p : Path) → IsSome (fin.get tree p) → ((p q : Path) → IsSome (fin.get tree p) → at_or_below p q ≡ true → IsSome (fin.get tree q))
    → (at n : ℕ) → at ≡ row_at tree (take n p) → IsOfGroup tree at
of_group tree p home prefixes at n here = record { path = take n p; there = prefixes p (take n p) home (take_above n p); here = here }

-- its slot of the meter
pub own_below : (slots : ℕ) (tree : Groups) → SlotsBelow slots tree → (p : Path) → IsSome (fin.get tree p)
    → ((p q : Path) → IsSome (fin.get tree p) → at_or_below p q ≡ true → IsSome (fin.get tree q))
    → (at n : ℕ) → n ≤ length p → at ≡ row_at tree (take n p) → 0 < at → (slot_at tree (take n p) < slots) × (at - 1 < slots)
own_below slots tree below p home prefixes at n few here pos =
    elim (cases_lt 0 n) [
      | inl lt ↦
          let long : 0 < length (take n p) = omega (arith, lt, few, length-take-le n p few) in
          let low = below (take n p) long (prefixes p (take n p) home (take_above n p)) in
          (low, omega (arith, here, own_slot tree (take n p) long, low))
      | inr le ↦ let top : n ≡ 0 = omega (arith, le) in absurd (omega (arith, pos, here, ap (λ (k : ℕ). row_at tree (take k p)) top))
    ]

-- from the group at the first n names of the path, whose processes are in slot `at` of their table, to that at the first m
pub record IsStepUp (tree : Groups) (p : Path) (at n m : ℕ) : Type 0 where
  pub more : n ≡ suc m
  pub next : (up : ℕ) → ((q : Path) → IsSome (fin.get tree q) → at ≡ row_at tree q → up ≡ row_at tree (parent q)) → up ≡ row_at tree (take m p)
  pub one_less : (leaf s j : ℕ) → chain_at tree p n leaf s j ≡ chain_at tree p m leaf s j + one_at (at - 1) leaf s j

module _ (tree : Groups) (p : Path) (home : IsSome (fin.get tree p))
    (prefixes : (p q : Path) → IsSome (fin.get tree p) → at_or_below p q ≡ true → IsSome (fin.get tree q)) where
  -- from a group other than the root
  pub step_by : (at n m : ℕ) → n ≤ length p → at ≡ row_at tree (take n p) → n ≡ suc m → IsStepUp tree p at n m
  step_by at n m few here e =
      let own : Path = take (suc m) p in
      let there = prefixes p own home (take_above (suc m) p) in
      let long : 0 < length own = omega (arith, length-take-le (suc m) p (omega (arith, e, few))) in
      let is : at ≡ row_at tree own = here ∙ ap (λ (k : ℕ). row_at tree (take k p)) e in
      let slot : at - 1 ≡ slot_at tree own = omega (arith, is, own_slot tree own long) in
      record {
        more = e;
        next = λ up says. says own there is ∙ ap (row_at tree) (parent_take p m (omega (arith, e, few)));
        one_less = λ leaf s j. ap (λ (k : ℕ). chain_at tree p k leaf s j) e ∙ ap (λ (k : ℕ). chain_at tree p m leaf s j + one_at k leaf s j) (sym slot);
      }

  -- below the root a step leads to the parent
  pub step_up : (at n m : ℕ) → n ≤ length p → at ≡ row_at tree (take n p) → 0 < at → m ≡ n - 1 → IsStepUp tree p at n m
  step_up at n m few here pos e =
      elim (cases_lt 0 n) [
        | inl lt ↦ step_by at n m few here (omega (arith, lt, e))
        | inr le ↦ let top : n ≡ 0 = omega (arith, le) in absurd (omega (arith, pos, here, ap (λ (k : ℕ). row_at tree (take k p)) top))
      ]
