use Rattle.replay_main.proofs.ScriptLaws.{answers-out}
use Rattle.session_laws.proofs.ToldAnswers.{at-hand, script_answers}
use Rattle.session_laws.proofs.replays.scripts.answers_of_scripts.Goals as goal

pub returns-clause-model : goal.returns-clause-model
returns-clause-model c = script_answers

pub returns-clause-answers : goal.returns-clause-answers
returns-clause-answers c = answers-out

pub returns-clause-at_hand : goal.returns-clause-at_hand
returns-clause-at_hand c = at-hand
