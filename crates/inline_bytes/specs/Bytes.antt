-- The bytes of a value, whether stored inline or in an allocation.
use Rattle.std.specs.Prelude.{ℕ, ◌≤◌, List, length, take}
use Rattle.std.specs.Arc.{arc_value}
use Rattle.inline_bytes.specs.declared.bytes.TheConstants.{INLINE_MAX}
use Rattle.inline_bytes.specs.declared.bytes.Storage.{Storage}
use Rattle.inline_bytes.specs.declared.bytes.Storage.TheVariants.{Inline, Shared}

abbrev pub bytes_in : {A : Type 0} → Storage A → List ℕ
bytes_in (Inline bytes len) = take len bytes
bytes_in (Shared text len) = take len (arc_value text).items

-- the recorded number of bytes does not exceed the capacity of the array, or the bytes of the shared vector
abbrev pub IsSound : {A : Type 0} → Storage A → Type 0
IsSound (Inline bytes len) = len ≤ INLINE_MAX
IsSound (Shared text len) = len ≤ length (arc_value text).items
