-- A walk up that charges the groups it passes.
use Rattle.std.proofs.Common.{◌≡◌, ℕ, ◌+◌, ◌-◌, ◌<◌, ◌≤◌, true, length, take, IsSome, ap, arith}
use Rattle.std.specs.FinMap as fin
use Rattle.flat_model.specs.Path.{Path, parent, at_or_below}
use Rattle.group_tree.specs.Groups.{Groups}
use Rattle.snzi_tokens.specs.Listed.{one_at}
use Rattle.pids_charge.specs.Content.{Content}
use Rattle.pids_charge.specs.GroupRows.{IsOfGroup}
use Rattle.pids_charge.specs.Lists.{row_at, slot_at}
use Rattle.pids_charge.specs.Recount.{chain_at, charges_at, SlotsBelow}
use Rattle.pids_charge.proofs.ParentSteps.{at_own, at_root, of_group, own_below, step_up}

-- after so many steps from the group at p the walk is in the row `at`, and the groups that it passed are charged
pub record HasCharged (tree : Groups) (p : Path) (leaf up at : ℕ) (old now : Content) (held held2 : ℕ) : Type 0 where
  pub here : at ≡ row_at tree (take (length p - up) p)
  pub content : (s j : ℕ) → now s j + chain_at tree p (length p - up) leaf s j ≡ old s j + charges_at tree p leaf s j
  pub many : held2 + (length p - up) ≡ held + length p

pub none_charged : (tree : Groups) (p : Path) (leaf at : ℕ) (content : Content) (held : ℕ) → at ≡ row_at tree p → HasCharged tree p leaf 0 at content content held held
none_charged tree p leaf at content held e =
    let whole : length p - 0 ≡ length p = omega arith in
    record {
      here = at_own tree p at e;
      content = λ s j. ap (λ (n : ℕ). content s j + chain_at tree p n leaf s j) whole;
      many = ap (λ (n : ℕ). held + n) whole;
    }

module _ (tree : Groups) (prefixes : (p q : Path) → IsSome (fin.get tree p) → at_or_below p q ≡ true → IsSome (fin.get tree q)) (p : Path) (home : IsSome (fin.get tree p))
    (leaf up at : ℕ) (old now : Content) (held held2 : ℕ) (w : HasCharged tree p leaf up at old now held held2) where
  pub walks : IsOfGroup tree at
  walks = of_group tree p home prefixes at (length p - up) w.here

  -- below the root there is one more to charge
  pub one_left : 0 < at → held2 + 1 ≤ held + length p
  one_left pos =
      let step = step_up tree p home prefixes at (length p - up) (length p - (up + 1)) (omega arith) w.here pos (omega arith) in
      let more = step.more in
      let so_far = w.many in
      omega (arith, more, so_far)

  -- its slot is one of the meter's
  pub slot_low : (slots : ℕ) → SlotsBelow slots tree → 0 < at → at - 1 < slots
  slot_low slots below pos = (own_below slots tree below p home prefixes at (length p - up) (omega arith) w.here pos).1

  pub one_charged : 0 < at → (above : ℕ) → ((q : Path) → IsSome (fin.get tree q) → at ≡ row_at tree q → above ≡ row_at tree (parent q))
      → (new : Content) (held3 : ℕ) → ((s j : ℕ) → new s j ≡ now s j + one_at (at - 1) leaf s j) → held3 ≡ held2 + 1 → HasCharged tree p leaf (up + 1) above old new held held3
  one_charged pos above says new held3 is more =
      let step = step_up tree p home prefixes at (length p - up) (length p - (up + 1)) (omega arith) w.here pos (omega arith) in
      let fewer = step.more in
      let so_far = w.many in
      record {
        here = step.next above says;
        content = λ s j. let less = step.one_less leaf s j in let before = w.content s j in omega (arith, is s j, before, less);
        many = omega (arith, more, so_far, fewer);
      }

  -- nothing is left to charge
  pub all_charged : length p - up ≡ 0 → ((s j : ℕ) → now s j ≡ old s j + charges_at tree p leaf s j) × (held2 ≡ held + length p)
  all_charged none = (
    λ s j. let before = w.content s j in omega (arith, before, ap (λ (k : ℕ). chain_at tree p k leaf s j) none),
    let so_far = w.many in omega (arith, so_far, none),
  )

  pub at_top : at ≡ 0 → length p - up ≡ 0
  at_top e = at_root tree p at (length p - up) (omega arith) w.here e
