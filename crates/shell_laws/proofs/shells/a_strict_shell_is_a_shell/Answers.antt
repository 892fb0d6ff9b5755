use Rattle.shell_laws.proofs.Stricts.{as_shell}
use Rattle.shell_laws.proofs.shells.a_strict_shell_is_a_shell.Goals as goal

pub returns : goal.returns
returns c = λ how start before source sink r s n. as_shell r how start source before sink s n
