use Rattle.flat_model_laws.proofs.PastLaws.{well_formed_is, events_are, own_is}
use Rattle.flat_model_laws.proofs.machine.past_is_given_back.Goals as goal

pub returns : goal.returns
returns c = record {
  well_formed = well_formed_is;
  events = events_are;
  own = own_is;
}
