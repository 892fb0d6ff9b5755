use Rattle.std.proofs.Common.{◌≡◌, ◌<◌, ℕ, true, false, ltb, IsSome, length, sym, ap, ◌∙◌, arith}
use Rattle.std.proofs.lemmas.Bool.Decides.{nat_tests}
use Rattle.std.specs.List.{list_any}
use Rattle.std.specs.FinMap as fin
use Rattle.flat_model.specs.Path.{strictly_below, same_path}
use Rattle.flat_model.specs.State.{State}
use Rattle.flat_model.specs.Counts.{current, descendant_count, populated}
use Rattle.group_tree.specs.Groups.{slot_of}
use Rattle.snzi_tokens.specs.Listed.{over_leaves}
use Rattle.pids_charge.proofs.PathCharges.{current-is}
use Rattle.pids_charge.proofs.GroupReads.{is_positive}
use Rattle.pids_charge.proofs.Removals.{any-count, processes-are, group_here_by, group-gone, below-is, remove_no_group, remove_children, remove_processes, remove_allowed}
use Rattle.pids_charge.proofs.charges.Charges.refuses_rmdir.Goals as goal

pub below-requires : goal.below-requires
below-requires g c = record { path = c.args.path.now; there = c.in-Some.ensures.0; here = c.in-Some.ensures.1 }

pub row-requires : goal.row-requires
row-requires g c = record { path = c.args.path.now; there = c.in-Some.ensures.0; here = c.in-Some.ensures.1 }

pub returns-in_default-clause-first : goal.returns-in_default-clause-first
returns-in_default-clause-first g c =
    let s : State = c.args.self.now in
    let long : 0 < length c.args.path.now = omega arith in
    let gone = group-gone s c.self.inside.tree c.self.inside.processes c.self.view_is c.args.path.now (sym c.in_default.ensures) in
    remove_no_group g.M.Meter.SLOTS s c.args.path.now c.depth-depth.result long gone c.depth-depth.ensures

pub returns-then-below-gt0-clause-first : goal.returns-then-below-gt0-clause-first
returns-then-below-gt0-clause-first g c =
    let s : State = c.args.self.now in
    let long : 0 < length c.args.path.now = omega arith in
    let there = group_here_by s c.self.inside.tree c.self.inside.processes c.self.view_is c.args.path.now c.in-Some.ensures.0 in
    let exact = c.below.ensures c.args.path.now c.in-Some.ensures.0 c.in-Some.ensures.1 in
    let number = below-is s c.self.inside.tree c.self.inside.processes c.self.view_is c.args.path.now c.known.ensures.flat c.below.result exact in
    let some : ltb 0 (descendant_count s c.args.path.now) ≡ true = grind (arith, nat_tests, c.if-below-gt0.true, number) in
    remove_children g.M.Meter.SLOTS s c.args.path.now long there (any-count (λ q. strictly_below q c.args.path.now) (fin.keys s.groups) ∙ some)

pub returns-then-populated-clause-first : goal.returns-then-populated-clause-first
returns-then-populated-clause-first g c =
    let s : State = c.args.self.now in
    let long : 0 < length c.args.path.now = omega arith in
    let there = group_here_by s c.self.inside.tree c.self.inside.processes c.self.view_is c.args.path.now c.in-Some.ensures.0 in
    let exact = c.below.ensures c.args.path.now c.in-Some.ensures.0 c.in-Some.ensures.1 in
    let number = below-is s c.self.inside.tree c.self.inside.processes c.self.view_is c.args.path.now c.known.ensures.flat c.below.result exact in
    let zero : ltb 0 (descendant_count s c.args.path.now) ≡ false = grind (arith, nat_tests, c.if-below-gt0.false, number) in
    let none = any-count (λ q. strictly_below q c.args.path.now) (fin.keys s.groups) ∙ zero in
    let none_here = ap (λ (t : State). list_any (λ q. strictly_below q c.args.path.now) (fin.keys t.groups)) c.self.view_is ∙ none in
    let found : IsSome (fin.get c.self.inside.tree c.args.path.now) = c.in-Some.ensures.0 in
    let told = is_positive c.populated.result _ _ c.populated.ensures.answer (
    ap (λ (k : ℕ). over_leaves g.M.Meter.LEAVES (g.M.Meter.content c.self.inside.meter k)) (ap slot_of (c.row.ensures c.args.path.now c.in-Some.ensures.0 c.in-Some.ensures.1))
    ∙ current-is g.M.Meter.SLOTS g.M.Meter.LEAVES c.self.inside.tree c.self.inside.processes (g.M.Meter.content c.self.inside.meter)
    (g.M.Meter.held c.self.inside.meter) c.self.invariant.recounted c.self.inside.free.items c.self.invariant.has_slots
    c.known.ensures.prefixes c.args.path.now long found
    ∙ ap (λ (t : State). current t c.args.path.now) c.self.view_is) in
    let here = ap (λ (t : State). list_any (λ q. same_path q c.args.path.now) (fin.values t.home)) (sym c.self.view_is)
    ∙ processes-are g.M.Meter.LEAVES c.self.inside.tree c.self.inside.processes (g.M.Meter.content c.self.inside.meter)
    (g.M.Meter.held c.self.inside.meter) c.self.invariant.recounted c.args.path.now c.known.ensures.flat none_here
    ∙ ap (λ (t : State). populated t c.args.path.now) c.self.view_is in
    remove_processes g.M.Meter.SLOTS s c.args.path.now long there none (here ∙ sym told ∙ c.if-populated.true)

pub returns-clause-first : goal.returns-clause-first
returns-clause-first g c =
    let s : State = c.args.self.now in
    let long : 0 < length c.args.path.now = omega arith in
    let there = group_here_by s c.self.inside.tree c.self.inside.processes c.self.view_is c.args.path.now c.in-Some.ensures.0 in
    let exact = c.below.ensures c.args.path.now c.in-Some.ensures.0 c.in-Some.ensures.1 in
    let number = below-is s c.self.inside.tree c.self.inside.processes c.self.view_is c.args.path.now c.known.ensures.flat c.below.result exact in
    let zero : ltb 0 (descendant_count s c.args.path.now) ≡ false = grind (arith, nat_tests, c.if-below-gt0.false, number) in
    let none = any-count (λ q. strictly_below q c.args.path.now) (fin.keys s.groups) ∙ zero in
    let none_here = ap (λ (t : State). list_any (λ q. strictly_below q c.args.path.now) (fin.keys t.groups)) c.self.view_is ∙ none in
    let found : IsSome (fin.get c.self.inside.tree c.args.path.now) = c.in-Some.ensures.0 in
    let told = is_positive c.populated.result _ _ c.populated.ensures.answer (
    ap (λ (k : ℕ). over_leaves g.M.Meter.LEAVES (g.M.Meter.content c.self.inside.meter k)) (ap slot_of (c.row.ensures c.args.path.now c.in-Some.ensures.0 c.in-Some.ensures.1))
    ∙ current-is g.M.Meter.SLOTS g.M.Meter.LEAVES c.self.inside.tree c.self.inside.processes (g.M.Meter.content c.self.inside.meter)
    (g.M.Meter.held c.self.inside.meter) c.self.invariant.recounted c.self.inside.free.items c.self.invariant.has_slots
    c.known.ensures.prefixes c.args.path.now long found
    ∙ ap (λ (t : State). current t c.args.path.now) c.self.view_is) in
    let here = ap (λ (t : State). list_any (λ q. same_path q c.args.path.now) (fin.values t.home)) (sym c.self.view_is)
    ∙ processes-are g.M.Meter.LEAVES c.self.inside.tree c.self.inside.processes (g.M.Meter.content c.self.inside.meter)
    (g.M.Meter.held c.self.inside.meter) c.self.invariant.recounted c.args.path.now c.known.ensures.flat none_here
    ∙ ap (λ (t : State). populated t c.args.path.now) c.self.view_is in
    remove_allowed g.M.Meter.SLOTS s c.args.path.now long there none (here ∙ sym told ∙ c.if-populated.false)
