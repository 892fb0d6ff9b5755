-- The program's command line, as `clap` sees it.
use Rattle.std.proofs.Common.{◌≡◌, true, ap, ap₂, refl, sym, subst, ◌∙◌, ◌⊎◌, inl, inr, codes, List, Option, Result, Ok, Err}
use Rattle.clap.specs.Words.{App, HasMatchesOf, IsAmong, Rule, Text, fault_of, first_value, found_of, is_simple, is_simple_and_free, new_app, with_rule}
use Rattle.clap.specs.declared.error.kind.ErrorKind.{ErrorKind}
use Rattle.clap.specs.declared.error.kind.ErrorKind.TheVariants as kind
use Rattle.clap.specs.declared.parser.matches.ArgMatches.{ArgMatches}
use Rattle.clap.proofs.OnLiterals.{clap_on_literals}
use Rattle.program_io.specs.Clusters.{cluster_first}
use Rattle.program_io.proofs.CommandLines.{nameless, value_in, help_is_not_out_of_memory}
use Rattle.replay_main.specs.declared.arguments.Ask.{Ask}
use Rattle.replay_main.specs.declared.arguments.Ask.TheVariants.{Run, Help}
use Rattle.program_io.specs.declared.arguments.LineFault.{LineFault}
use Rattle.program_io.specs.declared.arguments.LineFault.TheVariants.{Bad, OutOfMemory}
use Rattle.replay_main.specs.ReplayArguments.{AsksReplay, AsksReplayBy, app, rehearsal_in, rehearsal_said, rehearse_rule, workers_in, workers_rule, workers_said}

pub app_is : (fresh bare one whole : App) (workers rehearse : Rule) → fresh ≡ new_app (codes "cgreplay") → bare ≡ nameless fresh
    → one ≡ with_rule bare workers → whole ≡ with_rule one rehearse → workers ≡ workers_rule → rehearse ≡ rehearse_rule → whole ≡ app
app_is fresh bare one whole workers rehearse f b o w r s = w ∙ ap₂ with_rule (o ∙ ap₂ with_rule (b ∙ ap nameless f) r) s

pub app_simple : is_simple app ≡ true
unfolding clap_on_literals
app_simple = refl

pub app_free : is_simple_and_free app ≡ true
unfolding clap_on_literals
app_free = refl

pub said_in : (a : App) (words : List Text) (m : ArgMatches) (value : Option Text) → a ≡ app → HasMatchesOf a words m
    → value ≡ first_value (found_of m) (codes "workers") → workers_said value ≡ workers_in words
said_in a words m value is h v = ap workers_said (value_in app app_simple a words m (codes "workers") value is h v)

pub rehearsal_said_in : (a : App) (words : List Text) (m : ArgMatches) (value : Option Text) → a ≡ app → HasMatchesOf a words m
    → value ≡ first_value (found_of m) (codes "rehearse") → rehearsal_said value ≡ rehearsal_in words
rehearsal_said_in a words m value is h v = ap rehearsal_said (value_in app app_simple a words m (codes "rehearse") value is h v)

pub asks_by : (words : List Text) (k : ErrorKind) (r : Result Ask LineFault) → AsksReplayBy (cluster_first words) k r → (k ≡ kind.OutOfMemory) ⊎ IsAmong k (fault_of app words)
    → AsksReplay words r
asks_by words k (Ok (Run workers rehearse)) h b = absurd h
asks_by words k (Ok (Help text)) h (inl e) = absurd (help_is_not_out_of_memory (sym h.0 ∙ e))
asks_by words k (Ok (Help text)) h (inr a) = (subst (λ x. IsAmong x (fault_of app words)) h.0 a, h.1)
asks_by words k (Err Bad) h (inl e) = absurd (h.1 e)
asks_by words k (Err Bad) h (inr a) = inl (k, a, h.0)
asks_by words k (Err OutOfMemory) h b = tt
