use Rattle.std.proofs.Common.{◌≡◌, ℕ, ◌∙◌, ◌≤◌, ◌↔◌, List, length, take, refl, ap, arith, length-take}
use Rattle.std.proofs.Math.Seq.{take-append_seam}
use Rattle.std.proofs.lemmas.List.{length-take-le}
use Rattle.std.specs.Arc.{arc_value}
use Rattle.inline_bytes.specs.declared.bytes.TheConstants.{INLINE_MAX}
use Rattle.inline_bytes.proofs.laws.bytes_are_those_in_front.Goals as goal

-- as many as are taken, where there are so many
as_many : (bytes : List ℕ) (room len : ℕ) → length bytes ≡ room → (len ≤ room) ↔ (length (take len bytes) ≡ len)
as_many bytes room len all = (λ few. length-take-le len bytes (omega arith), λ e. omega (arith, length-take len bytes))

pub returns : goal.returns
returns c = record {
  in_front = λ few behind. take-append_seam few behind;
  sound = λ bytes len. as_many bytes INLINE_MAX len;
  shared = λ few behind text e. ap (take (length few)) e ∙ take-append_seam few behind;
  sound_shared = λ text len. as_many (arc_value text).items (length (arc_value text).items) len refl;
}
