use Rattle.std.proofs.Common.{refl}
use Rattle.flat_model_laws.proofs.ReplyWords.{refused_is, answered_is}
use Rattle.flat_model_laws.proofs.examples.outputs.replies_that_refuse.Goals as goal

pub returns : goal.returns
returns c = record {
  refused = refused_is;
  answered = answered_is;
  exists = refl;
  nothing = refl;
  undone = refl;
  text = refl;
}
