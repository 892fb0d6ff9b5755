-- What the charges along a path come to at one slot, and sums of them.
use Rattle.std.proofs.Common.{◌≡◌, ℕ, zero, suc, ◌+◌, ◌<◌, ◌≤◌, ◌&&◌, true, false, cond, eqb, List, [], ◌∷◌, length, take, map, sum_by, count_by, IsSome, refl, sym, ap, ◌∙◌, arith, inl, inr}
use Rattle.std.proofs.lemmas.List.Sums.{sum_by-cons}
use Rattle.std.proofs.lemmas.Bool.{ne_eqb, eqb-true, eqb-false, cases_lt}
use Rattle.std.proofs.lemmas.List.{take_all, length-take-le}
use Rattle.std.proofs.lemmas.List.Elements.{All-weaker}
use Rattle.std.proofs.Math.Seq.{take-length}
use Rattle.std.specs.Ordering.{nat_cmp}
use Rattle.std.specs.Map.{values_of}
use Rattle.std.specs.FinMap as fin
use Rattle.flat_model.specs.Path.{Path, at_or_below, same_name}
use Rattle.flat_model.specs.Counts.{current}
use Rattle.flat_model.proofs.PathLaws.{at_or_below_take, at_or_below_itself, take_above}
use Rattle.group_tree.specs.Groups.{Groups}
use Rattle.snzi_tokens.specs.Listed.{one_at, over_leaves}
use Rattle.pids_charge.specs.Content.{Content}
use Rattle.pids_charge.specs.Lists.{Row}
use Rattle.pids_charge.specs.Recount.{Recounted, IsPlaced, HasSlots, chain_at, charges_of, state_of}
use Rattle.pids_charge.specs.Lists.{slot_at}
use Rattle.process_table.specs.declared.process.Process.{Process}
use Rattle.pids_charge.proofs.Entries.{home_rows, to_sorted, sum_by-same, sum_by-mapped}

-- a sum over the leaves, by its terms
pub over_leaves-same : (n : ℕ) (f g : ℕ → ℕ) → ((j : ℕ) → f j ≡ g j) → over_leaves n f ≡ over_leaves n g
over_leaves-same zero f g h = refl
over_leaves-same (suc n) f g h = rw (over_leaves-same n f g h, h n) refl

pub over_leaves-plus : (n : ℕ) (f g : ℕ → ℕ) → over_leaves n (λ j. f j + g j) ≡ over_leaves n f + over_leaves n g
over_leaves-plus zero f g = refl
over_leaves-plus (suc n) f g = rw (over_leaves-plus n f g) (omega arith)

pub over_leaves-zero : (n : ℕ) → over_leaves n (λ j. 0) ≡ 0
over_leaves-zero zero = refl
over_leaves-zero (suc n) = rw (over_leaves-zero n) refl

-- one at a leaf that is not among the first n
over_leaves-past : (n leaf : ℕ) → n ≤ leaf → over_leaves n (λ j. cond (eqb leaf j) 1 0) ≡ 0
over_leaves-past zero leaf h = refl
over_leaves-past (suc n) leaf h = rw (over_leaves-past n leaf (omega arith), ne_eqb leaf n (λ e. omega arith)) refl

over_leaves-here : (n leaf : ℕ) → leaf < n → over_leaves n (λ j. cond (eqb leaf j) 1 0) ≡ 1
over_leaves-here zero leaf h = absurd (omega arith)
over_leaves-here (suc n) leaf h =
    elim (eqb leaf n) as (λ b. eqb leaf n ≡ b → over_leaves n (λ j. cond (eqb leaf j) 1 0) + cond b 1 0 ≡ 1) [
      | true ↦ λ e. let same = eqb-true leaf n e in rw (over_leaves-past n leaf (omega arith)) refl
      | false ↦ λ e. let ne = eqb-false leaf n e in let lt : leaf < n = omega arith in rw (over_leaves-here n leaf lt) refl
    ] refl

pub over_leaves-one : (n slot leaf s : ℕ) → leaf < n → over_leaves n (one_at slot leaf s) ≡ cond (eqb slot s) 1 0
over_leaves-one n slot leaf s h =
    elim (eqb slot s) as (λ b. over_leaves n (λ j. cond (b && eqb leaf j) 1 0) ≡ cond b 1 0) [
      | true ↦ over_leaves-here n leaf h
      | false ↦ over_leaves-zero n
    ]

-- how many of the groups of the prefixes of 1 to n names have the slot
abbrev pub chain_count : Groups → Path → ℕ → ℕ → ℕ
chain_count tree p zero s = 0
chain_count tree p (suc n) s = chain_count tree p n s + cond (eqb (slot_at tree (take (suc n) p)) s) 1 0

pub over_leaves-chain : (leaves : ℕ) (tree : Groups) (p : Path) (n leaf s : ℕ) → leaf < leaves → over_leaves leaves (chain_at tree p n leaf s) ≡ chain_count tree p n s
over_leaves-chain leaves tree p zero leaf s h = over_leaves-zero leaves
over_leaves-chain leaves tree p (suc n) leaf s h =
    over_leaves-plus leaves (chain_at tree p n leaf s) (one_at (slot_at tree (take (suc n) p)) leaf s)
    ∙ rw (over_leaves-chain leaves tree p n leaf s h, over_leaves-one leaves (slot_at tree (take (suc n) p)) leaf s h) refl

pub chain_count-le : (tree : Groups) (p : Path) (n s : ℕ) → chain_count tree p n s ≤ n
chain_count-le tree p zero s = omega arith
chain_count-le tree p (suc n) s =
    elim (eqb (slot_at tree (take (suc n) p)) s) as (λ b. chain_count tree p n s + cond b 1 0 ≤ suc n)
    [ true ↦ omega (arith, chain_count-le tree p n s) | false ↦ omega (arith, chain_count-le tree p n s) ]

-- a path that is shorter than a group is not at or below it
pub above-short : (a p : Path) (n : ℕ) → n < length a → at_or_below (take n p) a ≡ false
above-short [] p n h = absurd (omega arith)
above-short (x ∷ a) [] zero h = refl
above-short (x ∷ a) [] (suc n) h = refl
above-short (x ∷ a) (y ∷ p) zero h = refl
above-short (x ∷ a) (y ∷ p) (suc n) h =
    elim (same_name y x) as (λ b. (b && at_or_below (take n p) a) ≡ false) [ true ↦ above-short a p n (omega arith) | false ↦ refl ]

-- a prefix that is as long answers as the whole path
pub above-long : (a p : Path) (n : ℕ) → length a ≤ n → at_or_below (take n p) a ≡ at_or_below p a
above-long [] p n h = refl
above-long (x ∷ a) [] zero h = refl
above-long (x ∷ a) [] (suc n) h = refl
above-long (x ∷ a) (y ∷ p) zero h = absurd (omega arith)
above-long (x ∷ a) (y ∷ p) (suc n) h = rw (above-long a p n (omega arith)) refl

-- the slot of a group stands once among the slots of a path at or below it, and else not at all
module _ (tree : Groups) (p a : Path) (below_root : 0 < length a) (apart : (k : ℕ) → 0 < k → k ≤ length p → slot_at tree (take k p) ≡ slot_at tree a → take k p ≡ a) where
  long : (n : ℕ) → length a ≤ n → suc n ≤ length p → eqb (slot_at tree (take (suc n) p)) (slot_at tree a) ≡ false
  long n h le = ne_eqb _ _ (λ e. let same = ap length (apart (suc n) (omega arith) le e) in omega (arith, length-take-le (suc n) p le))

  next : (n : ℕ) → n < length a → suc n ≤ length p → eqb (slot_at tree (take (suc n) p)) (slot_at tree a) ≡ at_or_below (take (suc n) p) a
  next n h le =
      elim (eqb (slot_at tree (take (suc n) p)) (slot_at tree a)) as (λ b. eqb (slot_at tree (take (suc n) p)) (slot_at tree a) ≡ b → b ≡ at_or_below (take (suc n) p) a) [
        | true ↦ λ t. rw (apart (suc n) (omega arith) le (eqb-true _ _ t)) (sym (at_or_below_itself a))
        | false ↦ λ t. elim (at_or_below (take (suc n) p) a) as (λ b. at_or_below (take (suc n) p) a ≡ b → false ≡ b) [
          | true ↦ λ u.
              let short : length (take (suc n) p) ≤ length a = omega (arith, length-take-le (suc n) p le) in
              let same = sym (take_all (length a) (take (suc n) p) short) ∙ sym (at_or_below_take (take (suc n) p) a u) in
              absurd (eqb-false _ _ t (ap (slot_at tree) same))
          | false ↦ λ u. refl
        ] refl
      ] refl

  pub chain_count-at : (n : ℕ) → n ≤ length p → chain_count tree p n (slot_at tree a) ≡ cond (at_or_below (take n p) a) 1 0
  chain_count-at zero h = rw (above-short a p 0 below_root) refl
  chain_count-at (suc n) h =
      let before = chain_count-at n (omega arith) in
      elim (cases_lt n (length a)) [
        | inl lt ↦ rw (before, above-short a p n lt, next n lt h) (omega arith)
        | inr le ↦ rw (before, above-long a p n le, above-long a p (suc n) (omega arith), long n le h) (omega arith)
      ]

module _ {X : Type 0} where
  -- the leaves and the processes are summed in either order
  pub over_leaves-sum_by : (n : ℕ) (f : X → ℕ → ℕ) (xs : List X) → over_leaves n (λ j. sum_by (λ x. f x j) xs) ≡ sum_by (λ x. over_leaves n (f x)) xs
  over_leaves-sum_by n f [] = over_leaves-zero n
  over_leaves-sum_by n f (x ∷ xs) =
      over_leaves-same n _ _ (λ j. sum_by-cons (λ x. f x j) x xs)
      ∙ over_leaves-plus n (f x) (λ j. sum_by (λ x. f x j) xs)
      ∙ ap (λ r. over_leaves n (f x) + r) (over_leaves-sum_by n f xs)
      ∙ sym (sum_by-cons (λ x. over_leaves n (f x)) x xs)

module _ {A : Type 0} (slots leaves : ℕ) (tree : Groups) (es : List (Row A)) (content : Content) (held : ℕ)
    (d : Recounted leaves tree es content held) (free : List ℕ) (h : HasSlots slots tree free)
    (prefixes : (p q : Path) → IsSome (fin.get tree p) → at_or_below p q ≡ true → IsSome (fin.get tree q)) where
  -- the meter's number at a slot, process by process
  pub at_slot : (s : ℕ) → over_leaves leaves (content s) ≡ sum_by (λ p. chain_count tree p.home (length p.home) s) (values_of es)
  at_slot s =
      over_leaves-same leaves _ _ (d.counted s)
      ∙ over_leaves-sum_by leaves (λ p. charges_of tree p s) (values_of es)
      ∙ sum_by-same _ _ (values_of es) (All-weaker (λ p. IsPlaced leaves tree p) (λ p. over_leaves leaves (charges_of tree p s)
      ≡ chain_count tree p.home (length p.home) s) (λ p h. over_leaves-chain leaves tree p.home (length p.home) p.leaf s h.leaf_below)
      (values_of es) d.placed)

  -- whether one process is at or below a group, by the slots of its chain
  one : (a : Path) → 0 < length a → IsSome (fin.get tree a) → (p : Process A) → IsPlaced leaves tree p → chain_count tree p.home (length p.home) (slot_at tree a) ≡ cond (at_or_below p.home a) 1 0
  one a below_root there p i =
      chain_count-at tree p.home a below_root (λ k pos le e. h.apart (take k p.home) a (omega (arith, length-take-le k p.home le))
      below_root (prefixes p.home (take k p.home) i.home (take_above k p.home)) there e) (length p.home) (omega arith)
      ∙ ap (λ q. cond (at_or_below q a) 1 0) (take-length p.home)

  -- the meter's number at a group's slot is the number of processes at or below it
  pub current-is : (a : Path) → 0 < length a → IsSome (fin.get tree a) → over_leaves leaves (content (slot_at tree a)) ≡ current (state_of tree es) a
  current-is a below_root there =
      at_slot (slot_at tree a)
      ∙ sum_by-same _ _ (values_of es)
      (All-weaker (λ p. IsPlaced leaves tree p) (λ p. chain_count tree p.home (length p.home) (slot_at tree a)
      ≡ cond (at_or_below p.home a) 1 0) (one a below_root there) (values_of es) d.placed)
      ∙ sum_by-mapped (λ p. cond (at_or_below p.home a) 1 0) (λ e. e.1) es
      ∙ sym (sum_by-mapped (λ e. cond (at_or_below e.1 a) 1 0) (λ e. (e.0, e.1.home)) es)
      ∙ sym (sum_by-mapped (λ q. cond (at_or_below q a) 1 0) (λ e. e.1) (home_rows es))
      ∙ sym (ap (λ rs. count_by (λ q. at_or_below q a) (map (λ e. e.1) rs)) (fin.entries-from_sorted nat_cmp (home_rows es) (to_sorted es d.ordered)))
