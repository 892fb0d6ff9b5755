-- The walk from the parent of a new group upward to the first limit that it meets.
use Rattle.std.proofs.Common.{◌≡◌, ℕ, zero, suc, ◌-◌, ◌<◌, ◌≤◌, true, false, Option, Some, None, [], ◌∷◌, length, take, drop, option_map, refl, sym, ap, ◌∙◌, arith}
use Rattle.std.proofs.lemmas.List.{drop_all, length-take-le}
use Rattle.std.proofs.Math.Seq.{drop-cons}
use Rattle.std.specs.Option.{option_or}
use Rattle.std.specs.FinMap as fin
use Rattle.flat_model.specs.Path.{Path, parent, upward}
use Rattle.flat_model.specs.Counts as flat
use Rattle.flat_model.specs.Counts.{asks, reaches}
use Rattle.flat_model.specs.Command.{Refusal}
use Rattle.flat_model.specs.Command as model
use Rattle.flat_model.specs.Refuse.{refuse}
use Rattle.flat_model.specs.Step.{limit_met, first_refusal}
use Rattle.flat_model.proofs.MapValues.{get-map_values}
use Rattle.flat_model.proofs.Prefixes.{length-upward, upward_at}
use Rattle.group_tree.specs.Flat.{limit_of, group_of}
use Rattle.group_tree.specs.Groups.{Groups, descendant_count}
use Rattle.group_tree.specs.declared.attr.Attr.{Attr}
use Rattle.group_tree.proofs.Flat.{same_count}
use Rattle.pids_charge.specs.Answers.{names_in, refusal_along}
use Rattle.pids_charge.specs.Events.{flat_of}
use Rattle.pids_charge.specs.HierarchyLimits.{IsFirstMet}
use Rattle.pids_charge.specs.declared.fault.ChargeRefusal.{ChargeRefusal}

-- a front of a front
take_front : (j n : ℕ) (p : Path) → j ≤ n → take j (take n p) ≡ take j p
take_front zero n p h = refl
take_front (suc j) zero p h = absurd (omega (arith, h))
take_front (suc j) (suc n) [] h = refl
take_front (suc j) (suc n) (x ∷ p) h = ap (λ (q : Path). x ∷ q) (take_front j n p (omega (arith, h)))

module _ (m : Groups) (p : Path) where
  abbrev above : Path
  above = parent p

  abbrev test : Path → Option Refusal
  test a = limit_met (flat_of m fin.empty) above a

  -- ---- the limits of one group, by its row

  module _ (a : Path) (attr : Attr) (below levels n : ℕ) (is : Some attr ≡ fin.get m a) (named : take n p ≡ a) (counted : below ≡ descendant_count m a)
      (far : levels ≡ length above - length a) where
    has : fin.get (flat_of m fin.empty).groups a ≡ Some (group_of attr)
    has = get-map_values group_of m a ∙ ap (option_map group_of) (sym is)

    count : below ≡ flat.descendant_count (flat_of m fin.empty) a
    count = counted ∙ sym (same_count m fin.empty a)

    abbrev by_depth : Option Refusal
    by_depth = refuse (reaches levels (limit_of attr.limits.depth)) (model.Depth (take n p)) None

    tests : refuse (reaches below (limit_of attr.limits.descendants)) (model.Descendants (take n p)) by_depth ≡ test a
    tests =
        (λ i. refuse (reaches (count i) (limit_of attr.limits.descendants)) (model.Descendants (named i)) (refuse (reaches (far i) (limit_of attr.limits.depth)) (model.Depth (named i)) None))
        ∙ (λ i. refuse (asks (λ x. reaches (flat.descendant_count (flat_of m fin.empty) a) x.limits.descendants) (sym has i)) (model.Descendants a)
        (refuse (asks (λ x. reaches (length above - length a) x.limits.depth) (sym has i)) (model.Depth a) None))

    pub met_descendants : reaches below (limit_of attr.limits.descendants) ≡ true → Some (model.Descendants (take n p)) ≡ test a
    met_descendants e = ap (λ b. refuse b (model.Descendants (take n p)) by_depth) (sym e) ∙ tests

    pub met_depth : reaches below (limit_of attr.limits.descendants) ≡ false → reaches levels (limit_of attr.limits.depth) ≡ true → Some (model.Depth (take n p)) ≡ test a
    met_depth e f = ap (λ b. refuse b (model.Depth (take n p)) None) (sym f) ∙ ap (λ b. refuse b (model.Descendants (take n p)) by_depth) (sym e) ∙ tests

    pub met_none : reaches below (limit_of attr.limits.descendants) ≡ false → reaches levels (limit_of attr.limits.depth) ≡ false → None ≡ test a
    met_none e f = ap (λ b. refuse b (model.Depth (take n p)) None) (sym f) ∙ ap (λ b. refuse b (model.Descendants (take n p)) by_depth) (sym e) ∙ tests

  -- ---- the walk

  module _ (named : 0 < length p) where
    size : length above ≡ length p - 1
    size = length-take-le (length p - 1) p (omega arith)

    module _ (levels n : ℕ) (low : levels < length p) (names : n ≡ length p - 1 - levels) where
      abbrev own : Path
      own = take (length above - levels) above

      pub front_is : take n p ≡ own
      front_is =
          let fewer : n ≡ length above - levels = omega (arith, size, names) in
          sym (take_front n (length p - 1) p (omega (arith, names))) ∙ ap (λ (k : ℕ). take k above) fewer

      pub far_is : levels ≡ length above - length own
      far_is =
          let len = length-take-le (length above - levels) above (omega arith) in
          omega (arith, size, low, len)

      way : drop levels (upward above) ≡ own ∷ drop (suc levels) (upward above)
      way =
          drop-cons (upward above) levels [] (omega (arith, length-upward above, size, low))
          ∙ ap (λ (a : Path). a ∷ drop (suc levels) (upward above)) (upward_at above levels [] (omega (arith, size, low)))

      -- no limit is met here
      pub one_further : (next : ℕ) → next ≡ suc levels → None ≡ test own
          → first_refusal test (drop levels (upward above)) ≡ first_refusal test (upward above) → first_refusal test (drop next (upward above)) ≡ first_refusal test (upward above)
      one_further next then none before =
          ap (λ (k : ℕ). first_refusal test (drop k (upward above))) then
          ∙ ap (λ (o : Option Refusal). option_or o (first_refusal test (drop (suc levels) (upward above)))) none ∙ sym (ap (first_refusal test) way) ∙ before

      -- a limit is met here
      pub first_here : (found : ChargeRefusal) → Some (refusal_along p found) ≡ test own → names_in found ≡ n
          → first_refusal test (drop levels (upward above)) ≡ first_refusal test (upward above) → IsFirstMet m p (Some found)
      first_here found met few before = record {
        first = ap (λ (o : Option Refusal). option_or o (first_refusal test (drop (suc levels) (upward above)))) met ∙ sym (ap (first_refusal test) way) ∙ before;
        inside = omega (arith, names, few);
      }

    -- no limit is met at all
    pub none_met : (levels : ℕ) → levels ≡ length p → first_refusal test (drop levels (upward above)) ≡ first_refusal test (upward above) → IsFirstMet m p None
    none_met levels all before =
        let over : drop levels (upward above) ≡ [] = drop_all levels (upward above) (omega (arith, length-upward above, size, all, named)) in
        record { first = sym (ap (first_refusal test) over) ∙ before; inside = tt }
