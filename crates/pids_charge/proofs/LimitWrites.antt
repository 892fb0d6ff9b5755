-- A limit that is set.
use Rattle.std.proofs.Common.{◌≡◌, ℕ, ◌&&◌, true, false, Some, None, List, length, take, unwrap_or, option_map, refl, sym, ap, ◌∙◌}
use Rattle.std.specs.FinMap as fin
use Rattle.std.proofs.Math.Seq.{take-length}
use Rattle.flat_model.specs.Path.{Path, is_root}
use Rattle.flat_model.specs.State as flat
use Rattle.flat_model.specs.State.{State, fresh}
use Rattle.flat_model.specs.File.{LimitFile, is_pids_max}
use Rattle.flat_model.specs.Counts.{is_group}
use Rattle.flat_model.specs.Command.{SetLimit, NoFile, NoGroup}
use Rattle.flat_model.specs.Step.{refusal, after, with_limit, attr_of}
use Rattle.flat_model.proofs.MapValues.{map_values-insert, get-map_values}
use Rattle.flat_model.proofs.PathLaws.{path_cmp-IsTotalOrder, path_cmp-IsAntisymmetric}
use Rattle.group_tree.specs.Groups.{Groups}
use Rattle.group_tree.specs.Flat.{group_of}
use Rattle.group_tree.specs.declared.attr.Attr.{Attr}
use Rattle.pids_charge.specs.Lists.{Row}
use Rattle.pids_charge.specs.Recount.{state_of}

module _ (slots : ℕ) (s : State) (p : Path) (file : LimitFile) (value : flat.Limit) where
  pub limit_no_file : (is_root p && is_pids_max file) ≡ true → refusal slots s (SetLimit p file value) ≡ Some NoFile
  limit_no_file h = rw h refl

  pub limit_no_group : (n : ℕ) → (is_root p && is_pids_max file) ≡ false → is_group s p ≡ false → n ≡ length p → refusal slots s (SetLimit p file value) ≡ Some (NoGroup (take n p))
  limit_no_group n h i e = rw (h, i, e, take-length p) refl

  pub limit_allowed : (is_root p && is_pids_max file) ≡ false → is_group s p ≡ true → refusal slots s (SetLimit p file value) ≡ None
  limit_allowed h i = rw (h, i) refl

module _ {A : Type 0} (s : State) (tree : Groups) (es : List (Row A)) (v : state_of tree es ≡ s) where
  pub attr-is : (p : Path) (y : Attr) → fin.get tree p ≡ Some y → attr_of s p ≡ group_of y
  attr-is p y e = ap (λ (t : State). unwrap_or (fin.get t.groups p) fresh) (sym v) ∙ ap (λ o. unwrap_or o fresh) (get-map_values group_of tree p ∙ ap (option_map group_of) e)

  -- a tree with other attributes at a path
  pub written-is : (new : Groups) (p : Path) (x : Attr) → new ≡ fin.insert tree p x → state_of new es ≡ record s { groups = fin.insert s.groups p (group_of x) }
  written-is new p x e =
      ap (λ t. state_of t es) e
      ∙ ap (λ (g : _). record (state_of tree es) { groups = g }) (map_values-insert group_of path_cmp-IsTotalOrder path_cmp-IsAntisymmetric tree p x)
      ∙ ap (λ (t : State). record t { groups = fin.insert t.groups p (group_of x) }) v

  pub limited-is : (new : Groups) (p : Path) (x y : Attr) (file : LimitFile) (value : flat.Limit) → new ≡ fin.insert tree p x
      → fin.get tree p ≡ Some y → group_of x ≡ with_limit file value (group_of y) → state_of new es ≡ after s (SetLimit p file value)
  limited-is new p x y file value e there w =
      written-is new p x e ∙ ap (λ a. record s { groups = fin.insert s.groups p a }) (w ∙ ap (with_limit file value) (sym (attr-is p y there)))
