use Rattle.flat_model_laws.proofs.Directions.{direction_written, direction_shown}
use Rattle.flat_model_laws.proofs.texts.direction_is_of_the_file.Goals as goal

pub returns : goal.returns
returns c = record { written = direction_written; shown = direction_shown }
