use Rattle.std.proofs.Common.{[], ◌∷◌, codes, refl, inl, inr}
use Rattle.clap.specs.declared.error.kind.ErrorKind.TheVariants as kind
use Rattle.clap.proofs.OnLiterals.{clap_on_literals}
use Rattle.shell_laws.proofs.ProgramEnds.{cluster_no_text, help_not_bad}
use Rattle.shell_laws.proofs.words.words_that_ask.Goals as goal

pub returns-clause-none : goal.returns-clause-none
unfolding clap_on_literals
returns-clause-none c = refl

pub returns-clause-dashes : goal.returns-clause-dashes
unfolding clap_on_literals
returns-clause-dashes c = refl

pub returns-clause-help : goal.returns-clause-help
unfolding clap_on_literals
returns-clause-help c = refl

pub returns-clause-help_alone : goal.returns-clause-help_alone
unfolding clap_on_literals
returns-clause-help_alone c = help_not_bad (codes "--help" ∷ []) refl refl

pub returns-clause-unknown : goal.returns-clause-unknown
unfolding clap_on_literals
returns-clause-unknown c = record { fault = kind.UnknownArgument; is_found = inl refl; is_none = inl ((λ e. cc), (λ e. cc)) }

pub returns-clause-workers : goal.returns-clause-workers
unfolding clap_on_literals
returns-clause-workers c = record { fault = kind.UnknownArgument; is_found = inl refl; is_none = inl ((λ e. cc), (λ e. cc)) }

pub returns-clause-version : goal.returns-clause-version
unfolding clap_on_literals
returns-clause-version c = refl

pub returns-clause-file : goal.returns-clause-file
unfolding clap_on_literals
returns-clause-file c = (refl, refl)

pub returns-clause-no_file : goal.returns-clause-no_file
unfolding clap_on_literals
returns-clause-no_file c = refl

pub returns-clause-strict : goal.returns-clause-strict
unfolding clap_on_literals
returns-clause-strict c = (refl, refl)

pub returns-clause-lenient : goal.returns-clause-lenient
unfolding clap_on_literals
returns-clause-lenient c = refl

pub returns-clause-second : goal.returns-clause-second
unfolding clap_on_literals
returns-clause-second c = record { fault = kind.UnknownArgument; is_found = inl refl; is_none = inl ((λ e. cc), (λ e. cc)) }

pub returns-clause-twice : goal.returns-clause-twice
unfolding clap_on_literals
returns-clause-twice c = record { fault = kind.ArgumentConflict; is_found = inl refl; is_none = inl ((λ e. cc), (λ e. cc)) }

pub returns-clause-no_undo : goal.returns-clause-no_undo
unfolding clap_on_literals
returns-clause-no_undo c = (refl, refl)

pub returns-clause-history : goal.returns-clause-history
unfolding clap_on_literals
returns-clause-history c = refl

pub returns-clause-all : goal.returns-clause-all
unfolding clap_on_literals
returns-clause-all c = (refl, refl, refl)

pub returns-clause-again : goal.returns-clause-again
unfolding clap_on_literals
returns-clause-again c = record { fault = kind.ArgumentConflict; is_found = inl refl; is_none = inl ((λ e. cc), (λ e. cc)) }

pub returns-clause-cluster : goal.returns-clause-cluster
unfolding clap_on_literals
returns-clause-cluster c = record { fault = kind.DisplayVersion; is_found = inl refl; is_none = inr refl }

pub returns-clause-flags : goal.returns-clause-flags
unfolding clap_on_literals
returns-clause-flags c = record { fault = kind.DisplayHelp; is_found = inl refl; is_none = inr refl }

pub returns-clause-no_version : goal.returns-clause-no_version
unfolding clap_on_literals
returns-clause-no_version c = cluster_no_text (codes "-V1" ∷ []) refl

pub returns-clause-short_version : goal.returns-clause-short_version
unfolding clap_on_literals
returns-clause-short_version c = (inl refl, refl)

pub returns-clause-ignored : goal.returns-clause-ignored
unfolding clap_on_literals
returns-clause-ignored c = (inl refl, refl)

pub returns-clause-dashed_file : goal.returns-clause-dashed_file
unfolding clap_on_literals
returns-clause-dashed_file c = (refl, refl)
