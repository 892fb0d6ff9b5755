use Rattle.std.proofs.Common.{refl, inl, inr, [], ◌∷◌}
use Rattle.std.specs.Prelude.{codes}
use Rattle.clap.specs.declared.error.kind.ErrorKind.TheVariants as kind
use Rattle.clap.proofs.OnLiterals.{clap_on_literals}
use Rattle.shell_laws.proofs.ProgramEnds.{not_bad, help_not_bad, version_not_bad}
use Rattle.shell_laws.proofs.ends.words_that_are_bad.Goals as goal

pub returns-clause-unknown : goal.returns-clause-unknown
unfolding clap_on_literals
returns-clause-unknown c = record { fault = kind.UnknownArgument; is_found = inl refl; is_none = inl ((λ e. cc), (λ e. cc)) }

pub returns-clause-nothing : goal.returns-clause-nothing
unfolding clap_on_literals
returns-clause-nothing c = not_bad [] refl

pub returns-clause-file : goal.returns-clause-file
unfolding clap_on_literals
returns-clause-file c = not_bad (codes "x" ∷ []) refl

pub returns-clause-help : goal.returns-clause-help
unfolding clap_on_literals
returns-clause-help c = help_not_bad (codes "--help" ∷ []) refl refl

pub returns-clause-version : goal.returns-clause-version
unfolding clap_on_literals
returns-clause-version c = version_not_bad (codes "--version" ∷ []) refl refl

pub returns-clause-short_version : goal.returns-clause-short_version
unfolding clap_on_literals
returns-clause-short_version c = version_not_bad (codes "-V" ∷ codes "-V1" ∷ []) refl refl

pub returns-clause-cluster : goal.returns-clause-cluster
unfolding clap_on_literals
returns-clause-cluster c = record { fault = kind.DisplayHelp; is_found = inl refl; is_none = inr refl }
