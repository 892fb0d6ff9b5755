use Rattle.std.proofs.Common.{refl}
use Rattle.flat_model.specs.PathText.{name_fault, path_fault}
use Rattle.flat_model.specs.Trace.{command_of_words}
use Rattle.flat_model.specs.Values.{number_fault}
use Rattle.shell_laws.proofs.TalkLines.{commands_are, refused_are}
use Rattle.shell_laws.proofs.talks.summaries_of_traces.Goals as goal

pub returns-clause-commands : goal.returns-clause-commands
returns-clause-commands c = commands_are

pub returns-clause-refused : goal.returns-clause-refused
returns-clause-refused c = refused_are

pub returns-clause-three : goal.returns-clause-three
unfolding command_of_words path_fault name_fault number_fault
returns-clause-three c = refl
