use Rattle.session_laws.proofs.ToldAnswers.{script_places}
use Rattle.session_laws.proofs.replays.scripts.places_of_scripts.Goals as goal

pub returns-clause-numbered : goal.returns-clause-numbered
returns-clause-numbered c = script_places
