-- The names that an iterator over a path has still to return.
use Rattle.std.specs.Prelude.{ℕ, List, [], Option, Some, None}
use Rattle.std.specs.List.{slice_split}
use Rattle.flat_model.specs.Path.{Name}
use Rattle.flat_model.specs.PathText.{is_slash}

-- the names in the text after a slash, if there is a slash
abbrev pub names_behind : Option (List ℕ) → List Name
names_behind None = []
names_behind (Some bytes) = slice_split is_slash bytes
