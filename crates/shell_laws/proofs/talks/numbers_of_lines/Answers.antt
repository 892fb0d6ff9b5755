use Rattle.std.proofs.Common.{refl}
use Rattle.shell_laws.proofs.TalkLines.{next_number}
use Rattle.shell_laws.proofs.talks.numbers_of_lines.Goals as goal

pub returns : goal.returns
returns c = record { greatest = refl; next = next_number }
