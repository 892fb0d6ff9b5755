use Rattle.std.proofs.Common.{refl, [], ◌∷◌, Some}
use Rattle.std.specs.Prelude.{codes}
use Rattle.clap.specs.declared.error.kind.ErrorKind.TheVariants as kind
use Rattle.clap.proofs.OnLiterals.{clap_on_literals}
use Rattle.shell_laws.proofs.ProgramEnds.{all_is_written, help_reads_nothing, at_bad_line, cluster_no_text, unknown_no_text}
use Rattle.shell_laws.proofs.ends.what_a_program_leaves.Goals as goal

pub returns-clause-done : goal.returns-clause-done
unfolding clap_on_literals
returns-clause-done c = λ start before source sink u. all_is_written [] start before source sink u refl refl

pub returns-clause-help : goal.returns-clause-help
unfolding clap_on_literals
returns-clause-help c = λ start before source sink u. help_reads_nothing (codes "--help" ∷ []) start before source sink u refl

pub returns-clause-bad : goal.returns-clause-bad
unfolding clap_on_literals
returns-clause-bad c = λ start before source sink r h.
    let at = at_bad_line (codes "--bogus" ∷ []) (Some start) (Some before) source sink r kind.UnknownArgument refl (unknown_no_text (codes "--bogus" ∷ []) refl) h in (at.unread, at.unwritten)

pub returns-clause-cluster : goal.returns-clause-cluster
unfolding clap_on_literals
returns-clause-cluster c = λ start before source sink r h.
    let at = at_bad_line (codes "-V1" ∷ []) (Some start) (Some before) source sink r kind.DisplayVersion refl (cluster_no_text (codes "-V1" ∷ []) refl) h in (at.unread, at.unwritten, at.ends)

pub returns-clause-refused : goal.returns-clause-refused
unfolding clap_on_literals
returns-clause-refused c = λ start before source sink r h. (at_bad_line (codes "--bogus" ∷ []) start before source sink r kind.UnknownArgument refl (unknown_no_text (codes "--bogus" ∷ []) refl) h).ends

pub returns-clause-opening : goal.returns-clause-opening
returns-clause-opening c = λ words start before source sink h. h

pub returns-clause-pipe : goal.returns-clause-pipe
returns-clause-pipe c = λ words start before source sink h. h
