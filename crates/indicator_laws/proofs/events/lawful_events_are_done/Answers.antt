use Rattle.std.proofs.Common.{◌^◌, ◌-◌, inl, length, arith}
use mathlib.Core.Logic.{dite}
use native.Mathlib.Decide.{dec_le}
use Rattle.indicator_laws.proofs.LawfulRuns.{lawful_done, comes_run, comes_one, cap_alone}
use Rattle.indicator_laws.proofs.events.lawful_events_are_done.Goals as goal

pub returns-clause-some : goal.returns-clause-some
returns-clause-some c = λ k e p. inl p

pub returns-clause-done : goal.returns-clause-done
returns-clause-done c = lawful_done

pub returns-clause-refused : goal.returns-clause-refused
returns-clause-refused c = λ k e u lawful r. (
  cap_alone k e u r lawful,
  dite (dec_le (2 ^ 32 - 1) (length k.hands)) (λ p. p) (λ q. let z = lawful_done k e lawful (omega (arith, q)) in absurd (cc)),
)

pub returns-clause-run : goal.returns-clause-run
returns-clause-run c = comes_run

pub returns-clause-one : goal.returns-clause-one
returns-clause-one c = comes_one
