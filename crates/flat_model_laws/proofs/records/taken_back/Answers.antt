use Rattle.flat_model.proofs.InverseLaws.{back_accepted, back_refused, recorded_has_record, counted_has_record}
use Rattle.flat_model_laws.proofs.records.taken_back.Goals as goal

pub returns : goal.returns
returns c = record { accepted = back_accepted; counted = back_refused; recorded = recorded_has_record; counted_recorded = counted_has_record }
