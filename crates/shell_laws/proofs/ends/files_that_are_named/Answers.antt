use Rattle.std.proofs.Common.{refl, [], ◌∷◌, Some, None}
use Rattle.std.specs.Prelude.{codes}
use Rattle.clap.specs.declared.error.kind.ErrorKind.TheVariants as kind
use Rattle.clap.proofs.OnLiterals.{clap_on_literals}
use Rattle.shell_laws.proofs.ProgramEnds.{named_is, help_names_none, bad_names_nothing, cluster_no_text, unknown_no_text}
use Rattle.shell_laws.proofs.ends.files_that_are_named.Goals as goal

pub returns-clause-file : goal.returns-clause-file
unfolding clap_on_literals
returns-clause-file c = λ name. named_is (codes "x" ∷ []) name (Some (codes "x")) refl refl

pub returns-clause-nothing : goal.returns-clause-nothing
unfolding clap_on_literals
returns-clause-nothing c = λ name. named_is [] name None refl refl

pub returns-clause-help : goal.returns-clause-help
unfolding clap_on_literals
returns-clause-help c = λ name. help_names_none (codes "--help" ∷ []) name refl refl

pub returns-clause-bad : goal.returns-clause-bad
unfolding clap_on_literals
returns-clause-bad c = λ name. bad_names_nothing (codes "--bogus" ∷ []) name kind.UnknownArgument refl (unknown_no_text (codes "--bogus" ∷ []) refl)

pub returns-clause-dashed : goal.returns-clause-dashed
unfolding clap_on_literals
returns-clause-dashed c = λ name. named_is (codes "--" ∷ codes "-V1" ∷ []) name (Some (codes "-V1")) refl refl

pub returns-clause-cluster : goal.returns-clause-cluster
unfolding clap_on_literals
returns-clause-cluster c = λ name. bad_names_nothing (codes "-V1" ∷ []) name kind.DisplayVersion refl (cluster_no_text (codes "-V1" ∷ []) refl)
