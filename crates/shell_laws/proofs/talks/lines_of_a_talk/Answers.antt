use Rattle.std.specs.Fmt.{digits}
use Rattle.shell_laws.proofs.TalkLines.{skipped_is, fault_is, command_is}
use Rattle.flat_model.specs.Trace.{command_of_words}
use Rattle.shell_laws.proofs.talks.lines_of_a_talk.Goals as goal

pub returns-clause-skipped : goal.returns-clause-skipped
returns-clause-skipped c = skipped_is

pub returns-clause-fault : goal.returns-clause-fault
returns-clause-fault c = fault_is

pub returns-clause-command : goal.returns-clause-command
returns-clause-command c = command_is

pub returns-clause-first : goal.returns-clause-first
unfolding digits command_of_words
returns-clause-first c = λ before after q s. (s.bytes_are, s.point)
