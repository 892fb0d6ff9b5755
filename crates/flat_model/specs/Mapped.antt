-- A map with a function applied to each value: how a table of the program is seen as a map of the model.
use Rattle.std.specs.Prelude.{map}
use Rattle.std.specs.declared.cmp.Ordering.{Ordering}
use Rattle.std.specs.FinMap.{FinMap, from_sorted, entries}

abbrev pub map_values : {K X Y : Type 0} {R : K → K → Ordering} → (X → Y) → FinMap R X → FinMap R Y
map_values f m = from_sorted (map (λ e. (e.0, f e.1)) (entries m))
