use Rattle.std.proofs.Common.{refl}
use Rattle.flat_model_laws.proofs.examples.lines.lines_of_a_text.Goals as goal

pub returns : goal.returns
returns c = record {
  nothing = refl;
  line_feed = refl;
  ended = refl;
  unended = refl;
  empty_between = refl;
  empty_last = refl;
  other_blanks = refl;
}
