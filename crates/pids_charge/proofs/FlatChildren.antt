-- The children of a group of the tree are those of the flat state.
use Rattle.std.proofs.Common.{◌≡◌, true, false, List, map, Option, None, Some, is_some, sym, ap, ◌∙◌, MatchOption}
use Rattle.flat_model.specs.Path.{Name, Path}
use Rattle.flat_model.specs.State.{State}
use Rattle.flat_model.specs.Counts.{is_group, children}
use Rattle.flat_model.proofs.MapValues.{keys-map_values, contains-map_values}
use Rattle.group_tree.specs.Groups.{Groups}
use Rattle.group_tree.specs.Flat.{group_of}
use Rattle.group_tree.specs.ChildNames.{last_name, child_names, NamesChildren}
use Rattle.pids_charge.specs.Lists.{Row}
use Rattle.pids_charge.specs.Recount.{state_of}

pub children-told : {A : Type 0} (s : State) (tree : Groups) (es : List (Row A)) → state_of tree es ≡ s → (p : Path) (r : Option (List Name)) → NamesChildren tree p r
    → MatchOption r (is_group s p ≡ false) (λ names. (is_group s p ≡ true) × (names ≡ map last_name (children s p)))
children-told s tree es v p None h = ap (λ (t : State). is_group t p) (sym v) ∙ contains-map_values group_of tree p ∙ ap is_some h
children-told s tree es v p (Some names) h = (
  ap (λ (t : State). is_group t p) (sym v) ∙ contains-map_values group_of tree p ∙ h.0,
  h.1 ∙ ap (λ (ks : List Path). child_names ks p) (sym (keys-map_values group_of tree)) ∙ ap (λ (t : State). map last_name (children t p)) v,
)
