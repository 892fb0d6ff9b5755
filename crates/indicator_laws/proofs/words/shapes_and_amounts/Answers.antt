use Rattle.std.proofs.Common.{refl, arith}
use Rattle.indicator_laws.proofs.WordLaws.{shape_kept}
use Rattle.indicator_laws.proofs.words.shapes_and_amounts.Goals as goal

pub returns : goal.returns
returns c = record {
  kept = shape_kept;
  slots = λ h. omega (arith, h.0);
  nodes = λ h. omega (arith, h.1);
  both = refl;
  first = refl;
  second = refl;
  none = refl;
}
