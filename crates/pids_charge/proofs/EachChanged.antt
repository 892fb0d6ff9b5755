-- Groups whose attributes change, one by one: how many there are, and which, stays.
use Rattle.std.proofs.Common.{◌≡◌, ℕ, [], refl, ap, sym, ◌∙◌, Option, Some, None, IsSome, is_some}
use Rattle.std.specs.Prelude.{option_map}
use Rattle.std.specs.FinMap as fin
use Rattle.flat_model.specs.Path.{Path, parent}
use Rattle.flat_model.specs.Mapped.{map_values}
use Rattle.flat_model.proofs.MapValues.{get-map_values, len-map_values}
use Rattle.flat_model.proofs.PathLaws.{path_cmp-IsTotalOrder, path_cmp-IsAntisymmetric}
use Rattle.group_tree.specs.declared.attr.Attr.{Attr}
use Rattle.group_tree.specs.Groups.{Groups, IsClosed}

abbrev no_value : Attr → ℕ
no_value attr = 0

pub some_stays : (k : Attr → Attr) (o : Option Attr) → is_some (option_map k o) ≡ is_some o
some_stays k None = refl
some_stays k (Some x) = refl

-- each group has what f makes of its path and of what it had
module _ (f : Path → Attr → Attr) (old new : Groups) (changes : (q : Path) → fin.get new q ≡ option_map (f q) (fin.get old q)) where
  same_none : (k : Attr → Attr) (o : Option Attr) → option_map no_value (option_map k o) ≡ option_map no_value o
  same_none k None = refl
  same_none k (Some x) = refl

  pub len-changes : fin.len new ≡ fin.len old
  len-changes =
      sym (len-map_values no_value new)
      ∙ ap fin.len (fin.same_map path_cmp-IsTotalOrder path_cmp-IsAntisymmetric (map_values no_value new) (map_values no_value old) (λ q.
      get-map_values no_value new q ∙ ap (option_map no_value) (changes q) ∙ same_none (f q) (fin.get old q) ∙ sym (get-map_values no_value old q)))
      ∙ len-map_values no_value old

  there : (q : Path) → IsSome (fin.get old q) → IsSome (fin.get new q)
  there q h = ap is_some (changes q) ∙ some_stays (f q) (fin.get old q) ∙ h

  was : (q : Path) → IsSome (fin.get new q) → IsSome (fin.get old q)
  was q h = sym (ap is_some (changes q) ∙ some_stays (f q) (fin.get old q)) ∙ h

  pub closed_changes : IsClosed old → IsClosed new
  closed_changes c = record {
    root = there [] c.root;
    parents = λ p h. there (parent p) (c.parents p (was p h));
  }
