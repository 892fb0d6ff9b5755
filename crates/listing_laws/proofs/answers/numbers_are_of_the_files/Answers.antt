use Rattle.std.proofs.Common.{refl}
use Rattle.flat_model.specs.State.{At, Unlimited}
use Rattle.listing_laws.proofs.EngineAnswers.{limit_is, populated_by, empty_by}
use Rattle.listing_laws.proofs.answers.numbers_are_of_the_files.Goals as goal

pub returns : goal.returns
returns c = record {
  peak = λ s p. refl;
  limit = λ s p a n. limit_is s p a (At n);
  no_limit = λ s p a. limit_is s p a Unlimited;
  populated = populated_by;
  empty = empty_by;
}
