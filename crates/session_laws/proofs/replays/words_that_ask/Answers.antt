use Rattle.std.proofs.Common.{◌≡◌, ◌≢◌, ◌⊎◌, true, false, [], ◌∷◌, None, codes, refl, inl, inr, arith}
use Rattle.clap.specs.Words.{fault_of}
use Rattle.clap.specs.declared.error.kind.ErrorKind.{ErrorKind}
use Rattle.clap.specs.declared.error.kind.ErrorKind.TheVariants as kind
use Rattle.clap.proofs.OnLiterals.{clap_on_literals}
use Rattle.program_io.specs.Clusters.{cluster_first}
use Rattle.replay_main.specs.ReplayArguments.{HasFault, app, workers_in}
use Rattle.program_io.proofs.CommandLines.{only_help}
use Rattle.session_laws.proofs.replays.words_that_ask.Goals as goal

pub returns-clause-none : goal.returns-clause-none
unfolding clap_on_literals
returns-clause-none c = (refl, refl, omega arith, omega arith, refl)

pub returns-clause-workers : goal.returns-clause-workers
unfolding clap_on_literals
returns-clause-workers c = (refl, refl, omega arith, omega arith, refl)

pub returns-clause-joined : goal.returns-clause-joined
unfolding clap_on_literals
returns-clause-joined c = (refl, refl, omega arith, omega arith, refl)

pub returns-clause-rehearse : goal.returns-clause-rehearse
unfolding clap_on_literals
returns-clause-rehearse c = (refl, refl, omega arith, omega arith, refl)

pub returns-clause-both : goal.returns-clause-both
unfolding clap_on_literals
returns-clause-both c = (refl, refl, omega arith, omega arith, refl)

pub returns-clause-nine : goal.returns-clause-nine
unfolding clap_on_literals
returns-clause-nine c = inr (refl, refl)

pub returns-clause-nought : goal.returns-clause-nought
unfolding clap_on_literals
returns-clause-nought c = inr (refl, refl)

pub returns-clause-ten : goal.returns-clause-ten
unfolding clap_on_literals
returns-clause-ten c = inr (refl, refl)

pub returns-clause-unknown : goal.returns-clause-unknown
unfolding clap_on_literals
returns-clause-unknown c = inl (kind.UnknownArgument, inl refl, inl (λ e. cc))

pub returns-clause-stray : goal.returns-clause-stray
unfolding clap_on_literals
returns-clause-stray c = inl (kind.UnknownArgument, inl refl, inl (λ e. cc))

pub returns-clause-left_out : goal.returns-clause-left_out
unfolding clap_on_literals
returns-clause-left_out c = inl (kind.InvalidValue, inl refl, inl (λ e. cc))

pub returns-clause-joined_three : goal.returns-clause-joined_three
unfolding clap_on_literals
returns-clause-joined_three c = (refl, refl, omega arith, omega arith, refl)

pub returns-clause-dashes : goal.returns-clause-dashes
unfolding clap_on_literals
returns-clause-dashes c = (refl, refl, omega arith, omega arith, refl)

pub returns-clause-twice : goal.returns-clause-twice
unfolding clap_on_literals
returns-clause-twice c = inl (kind.ArgumentConflict, inl refl, inl (λ e. cc))

pub returns-clause-help : goal.returns-clause-help
unfolding clap_on_literals
returns-clause-help c = λ text. (inl refl, refl)

-- no cluster makes it a bad line
alone : (k : ErrorKind) → (k ≢ kind.DisplayHelp) ⊎ (cluster_first (codes "--help" ∷ []) ≡ true) → k ≢ kind.DisplayHelp
alone k (inl n) = n
alone k (inr t) = let e : false ≡ true = t in cc

only : HasFault (codes "--help" ∷ []) ⊎ ((fault_of app (codes "--help" ∷ []) ≡ []) × (workers_in (codes "--help" ∷ []) ≡ None)) → ⊥
unfolding clap_on_literals
only (inl f) = only_help f.0 f.1 (alone f.0 f.2)
only (inr e) = let none : kind.DisplayHelp ∷ [] ≡ [] = e.0 in cc

pub returns-clause-help_alone : goal.returns-clause-help_alone
unfolding clap_on_literals
returns-clause-help_alone c = only

pub returns-clause-short_help : goal.returns-clause-short_help
unfolding clap_on_literals
returns-clause-short_help c = λ text. (inl refl, refl)

pub returns-clause-cluster : goal.returns-clause-cluster
unfolding clap_on_literals
returns-clause-cluster c = inl (kind.DisplayHelp, inl refl, inr refl)

pub returns-clause-flags : goal.returns-clause-flags
unfolding clap_on_literals
returns-clause-flags c = inl (kind.DisplayHelp, inl refl, inr refl)

pub returns-clause-no_help : goal.returns-clause-no_help
unfolding clap_on_literals
returns-clause-no_help c = λ text h. let e : true ≡ false = h.1 in cc

pub returns-clause-ignored : goal.returns-clause-ignored
unfolding clap_on_literals
returns-clause-ignored c = λ text. (inl refl, refl)
