use Rattle.flat_model_laws.proofs.MappedReadings.{mapped_value, mapped_fault}
use Rattle.flat_model_laws.proofs.texts.readings_are_mapped.Goals as goal

pub returns : goal.returns
returns c = record { read = mapped_value; fault = mapped_fault }
