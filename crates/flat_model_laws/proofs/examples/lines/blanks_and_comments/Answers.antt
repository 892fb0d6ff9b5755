use Rattle.std.proofs.Common.{refl}
use Rattle.flat_model.specs.Values.{number_fault}
use Rattle.flat_model.specs.Trace.{command_of_words}
use Rattle.flat_model_laws.proofs.examples.lines.blanks_and_comments.Goals as goal

pub returns : goal.returns
unfolding number_fault command_of_words
returns c = record {
  no_bytes = refl;
  blanks_alone = refl;
  comment_behind_blanks = refl;
  long_comment = refl;
  long_blanks = refl;
  blanks_between = refl;
}
