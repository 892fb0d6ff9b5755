use Rattle.std.proofs.Common.{◌≡◌, Some, None, is_some, sym, ap, ◌∙◌, subst, ◌≤◌, length, take, option_map}
use Rattle.flat_model.specs.Command.{Fork, OverPidsMax}
use Rattle.flat_model.specs.Path.{Path}
use Rattle.flat_model.specs.State.{State}
use Rattle.flat_model.specs.Step.{refusal, home_of}
use Rattle.pids_charge.specs.Answers.{refusal_along}
use Rattle.pids_charge.proofs.FlatGroups.{process-is}
use Rattle.pids_charge.proofs.MeterContents.{found_placed}
use Rattle.pids_charge.proofs.ForkOutcomes.{home_at, fork_asks}
use Rattle.pids_charge.specs.declared.notes.FullGroup.{FullGroup}
use Rattle.pids_charge.proofs.charges.Charges.refuses_fork.Goals as goal

pub nearest_full-requires-clause-home : goal.nearest_full-requires-clause-home
nearest_full-requires-clause-home g c = (found_placed _ _ _ _ _ c.self.invariant.recounted c.args.parent c.in-Ok.process.now c.in-Ok.ensures.parent).home

pub nearest_full-requires-clause-row : goal.nearest_full-requires-clause-row
nearest_full-requires-clause-row g c = (found_placed _ _ _ _ _ c.self.invariant.recounted c.args.parent c.in-Ok.process.now c.in-Ok.ensures.parent).row

pub returns-in-Err-clause-first : goal.returns-in-Err-clause-first
returns-in-Err-clause-first g c =
    subst (λ (s : State). refusal g.M.Meter.SLOTS s (Fork c.args.parent c.args.child) ≡ Some (refusal_along (home_of c.args.self.now c.args.parent) c.in-Err.refusal)) c.self.view_is
    (c.in-Err.ensures.first g.M.Meter.SLOTS c.self.inside.tree (home_of c.args.self.now c.args.parent))

pub returns-in-Some-clause-first : goal.returns-in-Some-clause-first
returns-in-Some-clause-first g c =
    let found = c.in-Ok.ensures.parent in
    let at_home = home_at _ _ _ _ _ c.self.invariant.recounted c.args.self.now c.self.view_is c.args.parent c.in-Ok.process.now found in
    let new = process-is c.args.self.now c.self.inside.tree c.self.inside.processes c.self.view_is c.self.invariant.recounted.ordered c.args.child ∙ c.in-Ok.ensures.child in
    fork_asks g.M.Meter.SLOTS g.M.Meter.LEAVES c.self.inside.tree c.self.inside.processes (g.M.Meter.content c.self.inside.meter)
    (g.M.Meter.held c.self.inside.meter) c.self.invariant.recounted c.self.inside.free.items c.self.invariant.has_slots
    c.known.ensures.prefixes c.args.self.now c.self.view_is c.args.parent c.in-Ok.process.now found c.args.child new
    (Some (take c.in-Some.full.names c.in-Ok.process.now.home)) (ap (option_map (λ (full : FullGroup). take full.names c.in-Ok.process.now.home)) (sym c.in-Some.is) ∙ c.nearest_full.ensures.answer)
    ∙ ap (λ (q : Path). Some (OverPidsMax (take c.in-Some.full.names q))) (sym at_home)

pub returns-in-Some-clause-inside : goal.returns-in-Some-clause-inside
returns-in-Some-clause-inside g c =
    let at_home = home_at _ _ _ _ _ c.self.invariant.recounted c.args.self.now c.self.view_is c.args.parent c.in-Ok.process.now c.in-Ok.ensures.parent in
    subst (λ (q : Path). c.in-Some.full.names ≤ length q) (sym at_home) (rw c.in-Some.is at c.nearest_full.ensures.inside).1

pub returns-clause-first : goal.returns-clause-first
returns-clause-first g c =
    let found = c.in-Ok.ensures.parent in
    let new = process-is c.args.self.now c.self.inside.tree c.self.inside.processes c.self.view_is c.self.invariant.recounted.ordered c.args.child ∙ c.in-Ok.ensures.child in
    fork_asks g.M.Meter.SLOTS g.M.Meter.LEAVES c.self.inside.tree c.self.inside.processes (g.M.Meter.content c.self.inside.meter)
    (g.M.Meter.held c.self.inside.meter) c.self.invariant.recounted c.self.inside.free.items c.self.invariant.has_slots
    c.known.ensures.prefixes c.args.self.now c.self.view_is c.args.parent c.in-Ok.process.now found c.args.child new None
    (ap (option_map (λ (full : FullGroup). take full.names c.in-Ok.process.now.home)) (sym c.in_default.is) ∙ c.nearest_full.ensures.answer)

pub returns-clause-ready : goal.returns-clause-ready
returns-clause-ready g c = λ _. (
  process-is c.args.self.now c.self.inside.tree c.self.inside.processes c.self.view_is c.self.invariant.recounted.ordered c.args.parent
      ∙ ap is_some c.in-Ok.ensures.parent,
  process-is c.args.self.now c.self.inside.tree c.self.inside.processes c.self.view_is c.self.invariant.recounted.ordered c.args.child ∙ c.in-Ok.ensures.child,
)
