-- Which groups a walk up meets: the one where it begins, and those above it.
use Rattle.std.proofs.Common.{◌≡◌, ◌≢◌, ℕ, suc, ◌+◌, ◌-◌, ◌<◌, ◌≤◌, inl, inr, true, false, length, take, IsSome, refl, sym, ap, ◌∙◌, subst, arith}
use Rattle.std.proofs.lemmas.Bool.{cases_lt}
use Rattle.std.specs.FinMap as fin
use Rattle.flat_model.specs.Path.{Path, parent, at_or_below}
use Rattle.flat_model.proofs.PathLaws.{at_or_below_length, at_or_below_take, take_above}
use Rattle.group_tree.specs.Groups.{Groups}
use Rattle.pids_charge.specs.Lists.{row_at}
use Rattle.pids_charge.proofs.ParentSteps.{at_own, at_root, step_up}

-- after so many steps from the group at p the walk is in the row `met`, and the rows before were not `top`
pub record IsOnWay (tree : Groups) (p : Path) (top up met : ℕ) : Type 0 where
  pub few : up ≤ length p
  pub here : met ≡ row_at tree (take (length p - up) p)
  pub none : (k : ℕ) → k < up → row_at tree (take (length p - k) p) ≢ top

pub begun : (tree : Groups) (p : Path) (top at : ℕ) → at ≡ row_at tree p → IsOnWay tree p top 0 at
begun tree p top at e = record { few = omega arith; here = at_own tree p at e; none = λ k l. absurd (omega (arith, l)) }

module _ (tree : Groups) (prefixes : (p q : Path) → IsSome (fin.get tree p) → at_or_below p q ≡ true → IsSome (fin.get tree q))
    (p : Path) (home : IsSome (fin.get tree p)) (top up met : ℕ) (w : IsOnWay tree p top up met) where
  pub further : met ≢ top → 0 < met → (above : ℕ) → ((q : Path) → IsSome (fin.get tree q) → met ≡ row_at tree q → above ≡ row_at tree (parent q)) → IsOnWay tree p top (up + 1) above
  further other pos above says =
      let step = step_up tree p home prefixes met (length p - up) (length p - (up + 1)) (omega arith) w.here pos (omega arith) in
      let more : length p - up ≡ suc (length p - (up + 1)) = step.more in
      record {
        few = omega (arith, more);
        here = step.next above says;
        none = λ k l. elim (cases_lt k up) [
          | inl lt ↦ w.none k lt
          | inr le ↦
              let same : up ≡ k = omega (arith, l, le) in
              λ e. other (w.here ∙ ap (λ (n : ℕ). row_at tree (take (length p - n) p)) same ∙ e)
        ];
      }

  -- the walk has met the group at q
  pub found : ((a b : Path) → IsSome (fin.get tree a) → IsSome (fin.get tree b) → row_at tree a ≡ row_at tree b → a ≡ b)
      → (q : Path) → IsSome (fin.get tree q) → top ≡ row_at tree q → met ≡ top → true ≡ at_or_below p q
  found apart q there t e =
      let own : Path = take (length p - up) p in
      let is : own ≡ q = apart own q (prefixes p own home (take_above (length p - up) p)) there (sym w.here ∙ e ∙ t) in
      sym (subst (λ (r : Path). at_or_below p r ≡ true) is (take_above (length p - up) p))

  -- the walk has met the root, and not the group at q
  pub passed : (q : Path) → top ≡ row_at tree q → met ≢ top → met ≡ 0 → false ≡ at_or_below p q
  passed q t other e = elim (at_or_below p q) as (λ b. at_or_below p q ≡ b → false ≡ b) [
    | true ↦ λ is.
        let front = at_or_below_take p q is in
        let short = at_or_below_length p q is in
        let end : length p - up ≡ 0 = at_root tree p met (length p - up) (omega arith) w.here e in
        let slot : (n : ℕ) → n ≡ length q → row_at tree (take n p) ≡ top = λ n same. ap (λ (m : ℕ). row_at tree (take m p)) same ∙ ap (row_at tree) (sym front) ∙ sym t in
        elim (cases_lt (length p - length q) up) [
          | inl lt ↦ absurd (w.none (length p - length q) lt (slot (length p - (length p - length q)) (omega (arith, short))))
          | inr le ↦ absurd (other (w.here ∙ slot (length p - up) (omega (arith, le, end, short, w.few))))
        ]
    | false ↦ λ is. refl
  ] refl
