use Rattle.std.proofs.Common.{◌≡◌, ℕ, ◌+◌, ◌-◌, ◌&&◌, length, take, Bool, not, None, Some, option_map, arith, refl, sym, ap, ◌∙◌}
use Rattle.std.specs.FinMap as fin
use Rattle.flat_model.specs.Path.{Path, is_root, upward}
use Rattle.flat_model.specs.Counts.{first_path}
use Rattle.flat_model.proofs.PathLaws.{take_above}
use Rattle.group_tree.specs.Groups.{Groups, slot_of}
use Rattle.group_tree.specs.declared.attr.Attr.{Attr}
use Rattle.pids_charge.specs.Content.{Content}
use Rattle.pids_charge.specs.Events.{full_by}
use Rattle.pids_charge.specs.Lists.{row_at}
use Rattle.pids_charge.proofs.ParentSteps.{of_group, own_below, step_up, at_own, at_root}
use Rattle.pids_charge.proofs.FullGroupWalk.{first_full, longest, longest-yes, longest-no}
use Rattle.pids_charge.proofs.notes.nearest_full.Goals as goal

pub loop-up-init : goal.loop-up-init
loop-up-init g c =
    let p : Path = c.args.path.now in
    let whole : length p ≡ length p - 0 = omega arith in
    record {
      bound = omega arith;
      at = at_own c.args.tree.now p _ c.requires.row;
      answer = ap (longest (λ a. full_by g.M.Meter.LEAVES (g.M.Meter.content c.args.meter.now) (fin.get c.args.tree.now a)) p) whole;
      same = refl;
      held = refl;
    }

pub row-requires : goal.row-requires
row-requires g c = of_group c.args.tree.now c.args.path.now c.requires.home c.known.ensures.prefixes c.loop-up.at (length c.args.path.now - c.loop-up.up) c.loop-up.invariant.at

pub is_full-requires : goal.is_full-requires
is_full-requires g c =
    let p : Path = c.args.path.now in
    let tree = c.args.tree.now in
    let n : ℕ = length p - c.loop-up.up in
    let low = own_below g.M.Meter.SLOTS tree c.requires.slots p c.requires.home c.known.ensures.prefixes c.loop-up.at n (omega arith) c.loop-up.invariant.at (omega (arith, c.if-at-eq0.false)) in
    let here = c.row.ensures (take n p) (c.known.ensures.prefixes p (take n p) c.requires.home (take_above n p)) c.loop-up.invariant.at in
    record { slot = omega (arith, low.0, ap slot_of here) }

-- what the test answered
told : (leaves : ℕ) (tree : Groups) (before now : Content) (p : Path) (n : ℕ) (row : Attr) (b : Bool) → Some row ≡ fin.get tree (take n p) → now ≡ before → b ≡ full_by leaves now (Some row)
    → full_by leaves before (fin.get tree (take n p)) ≡ b
told leaves tree before now p n row b here same answer = ap (full_by leaves before) (sym here) ∙ ap (λ (x : Content). full_by leaves x (Some row)) (sym same) ∙ sym answer

pub up-at-requires : goal.up-at-requires
up-at-requires g c = of_group c.args.tree.now c.args.path.now c.requires.home c.known.ensures.prefixes c.loop-up.at (length c.args.path.now - c.loop-up.up) c.loop-up.invariant.at

pub loop-up-preserved : goal.loop-up-preserved
loop-up-preserved g c =
    let i = c.loop-up.invariant in
    let p : Path = c.args.path.now in
    let tree = c.args.tree.now in
    let n : ℕ = length p - c.loop-up.up in
    let m : ℕ = length p - (c.loop-up.up + 1) in
    let full = λ (q : Path). full_by g.M.Meter.LEAVES (g.M.Meter.content c.args.meter.now) (fin.get tree q) in
    let up = step_up tree p c.requires.home c.known.ensures.prefixes
    c.loop-up.at n m (omega arith) i.at (omega (arith, c.if-at-eq0.false)) (omega arith) in
    let here = c.row.ensures (take n p) (c.known.ensures.prefixes p (take n p) c.requires.home (take_above n p)) i.at in
    let next : n ≡ m + 1 = omega (arith, up.more) in
    let no = told g.M.Meter.LEAVES tree (g.M.Meter.content c.args.meter.now) (g.M.Meter.content c.loop-up.meter) p n c.row.result.now c.is_full.result here i.same c.is_full.ensures.answer in
    record {
      bound = omega arith;
      at = up.next c.up-at.result c.up-at.ensures;
      answer = i.answer ∙ ap (longest full p) next ∙ longest-no full p m (ap (λ (k : ℕ). full (take k p)) (sym next) ∙ no ∙ c.if-is_full.false);
      same = c.is_full.ensures.content ∙ i.same;
      held = c.is_full.ensures.held ∙ i.held;
    }

pub returns-then-is_full-clause-answer : goal.returns-then-is_full-clause-answer
returns-then-is_full-clause-answer g c =
    let i = c.loop-up.invariant in
    let p : Path = c.args.path.now in
    let tree = c.args.tree.now in
    let n : ℕ = length p - c.loop-up.up in
    let m : ℕ = length p - (c.loop-up.up + 1) in
    let full = λ (q : Path). full_by g.M.Meter.LEAVES (g.M.Meter.content c.args.meter.now) (fin.get tree q) in
    let up = step_up tree p c.requires.home c.known.ensures.prefixes
    c.loop-up.at n m (omega arith) i.at (omega (arith, c.if-at-eq0.false)) (omega arith) in
    let here = c.row.ensures (take n p) (c.known.ensures.prefixes p (take n p) c.requires.home (take_above n p)) i.at in
    let next : n ≡ m + 1 = omega (arith, up.more) in
    let yes = told g.M.Meter.LEAVES tree (g.M.Meter.content c.args.meter.now) (g.M.Meter.content c.loop-up.meter) p n c.row.result.now c.is_full.result here i.same c.is_full.ensures.answer in
    let last : c.depth.result - c.loop-up.up ≡ m + 1 = omega (arith, c.depth.ensures, next) in
    let found : Some (c.depth.result - c.loop-up.up) ≡ longest full p (length p) =
    ap (λ (k : ℕ). Some k) last ∙ sym (longest-yes full p m (ap (λ (k : ℕ). full (take k p)) (sym next) ∙ yes ∙ c.if-is_full.true)) ∙ ap (longest full p) (sym next) ∙ sym i.answer in
    ap (option_map (λ k. take k p)) found ∙ sym (first_full full p)

pub returns-then-is_full-clause-row : goal.returns-then-is_full-clause-row
returns-then-is_full-clause-row g c =
    c.loop-up.invariant.at ∙ ap (λ (k : ℕ). row_at c.args.tree.now (take (k - c.loop-up.up) c.args.path.now)) (sym c.depth.ensures)

-- no group on the way is full
none_full : (full : Path → Bool) (p : Path) (left : ℕ) → longest full p (length p) ≡ longest full p left → left ≡ 0 → None ≡ first_path (λ a. not (is_root a) && full a) (upward p)
none_full full p left answer top = ap (option_map (λ k. take k p)) (sym (answer ∙ ap (longest full p) top)) ∙ sym (first_full full p)

pub returns-after-loop-up-clause-answer : goal.returns-after-loop-up-clause-answer
returns-after-loop-up-clause-answer g c =
    let p : Path = c.args.path.now in
    let full = λ (q : Path). full_by g.M.Meter.LEAVES (g.M.Meter.content c.args.meter.now) (fin.get c.args.tree.now q) in
    none_full full p (length p - c.loop-up.up) c.loop-up.invariant.answer (omega (arith, c.known-2.ensures.shallow, c.loop-up-test.false))

pub returns-then-at-eq0-clause-answer : goal.returns-then-at-eq0-clause-answer
returns-then-at-eq0-clause-answer g c =
    let p : Path = c.args.path.now in
    let full = λ (q : Path). full_by g.M.Meter.LEAVES (g.M.Meter.content c.args.meter.now) (fin.get c.args.tree.now q) in
    none_full full p (length p - c.loop-up.up) c.loop-up.invariant.answer
    (at_root c.args.tree.now p c.loop-up.at (length p - c.loop-up.up) (omega arith) c.loop-up.invariant.at c.if-at-eq0.true)
