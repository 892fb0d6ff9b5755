use Rattle.std.proofs.Common.{◌≡◌, ℕ, ◌-◌, List, length, take, drop, None, ◌<◌, ◌≤◌, arith, refl, sym, ap, ◌∙◌, subst}
use Rattle.std.proofs.lemmas.List.{length-drop, length-take-le, take_all}
use Rattle.std.specs.FinMap as fin
use Rattle.flat_model.specs.Path.{Path}
use Rattle.flat_model.specs.State.{State}
use Rattle.flat_model.specs.Step.{set_peak, set_peaks}
use Rattle.group_tree.specs.Groups.{Groups}
use Rattle.pids_charge.specs.Peaks.{peaked_by, SetsPeaks}
use Rattle.pids_charge.specs.Recount.{state_of}
use Rattle.pids_charge.proofs.Changes.{slots_stay, charges_stay}
use Rattle.pids_charge.proofs.FlatTotals.{flat_changed, slots_changed}
use Rattle.pids_charge.proofs.RowsUp.{front_set}
use Rattle.pids_charge.proofs.charges.Charges.set_peaks.Goals as goal

-- as many peaks as the longest prefix that is a group has names
as_many : (peaks : List ℕ) (n m : ℕ) → n ≤ m → length peaks ≡ m → length (take (length peaks - (length peaks - n)) (drop (length peaks - n) peaks)) ≡ n
as_many peaks n m few many =
    let long : length (drop (length peaks - n) peaks) ≡ n = omega (arith, length-drop (length peaks - n) peaks, few, many) in
    ap length (take_all (length peaks - (length peaks - n)) (drop (length peaks - n) peaks) (omega (arith, long, few, many))) ∙ long

pub set_peaks_up-requires-clause-group : goal.set_peaks_up-requires-clause-group
set_peaks_up-requires-clause-group g c =
    let found = c.find_longest-n.ensures in
    record { path = take c.find_longest-n.result.0 c.args.path.now; there = found.group; here = found.row }

pub set_peaks_up-requires-clause-many : goal.set_peaks_up-requires-clause-many
set_peaks_up-requires-clause-many g c = λ q there here.
    let found = c.find_longest-n.ensures in
    let n = c.find_longest-n.result.0 in
    let is = c.known.ensures.apart q (take n c.args.path.now) there found.group (sym here ∙ found.row) in
    as_many c.args.peaks.now n (length c.args.path.now) found.inside c.requires ∙ sym (length-take-le n c.args.path.now found.inside) ∙ ap length (sym is)

-- the peaks of the longest prefix that is a group are set, and a group that there isn't has none
whole_set : (old new : Groups) (p : Path) (peaks : List ℕ) (n : ℕ) → n ≤ length p → length peaks ≡ length p
    → ((k : ℕ) → n < k → k ≤ length p → fin.get old (take k p) ≡ None)
    → SetsPeaks old new (take n p) (take (length peaks - (length peaks - n)) (drop (length peaks - n) peaks))
    → SetsPeaks old new p peaks
whole_set old new p peaks n few many missing sets =
    let last : List ℕ = drop (length peaks - n) peaks in
    let long : length last ≡ n = omega (arith, length-drop (length peaks - n) peaks, few, many) in
    let all : take (length peaks - (length peaks - n)) last ≡ last = take_all (length peaks - (length peaks - n)) last (omega (arith, long, few, many)) in
    front_set p peaks n few many old missing new (subst (λ (xs : List ℕ). SetsPeaks old new (take n p) xs) all sets)

pub invariant_of-self : goal.invariant_of-self
invariant_of-self g c =
    let tree = c.self.inside.tree in
    let found = c.find_longest-n.ensures in
    let sets = whole_set tree c.set_peaks_up.new.tree c.args.path.now c.args.peaks.now c.find_longest-n.result.0 found.inside c.requires found.missing (c.set_peaks_up.ensures (take c.find_longest-n.result.0 c.args.path.now) found.group found.row) in
    let slots = slots_changed (peaked_by c.args.path.now c.args.peaks.now) tree c.set_peaks_up.new.tree sets (λ q attr. refl) c.known-2.ensures.closed in
    record {
      has_slots = slots_stay tree c.set_peaks_up.new.tree slots g.M.Meter.SLOTS c.self.inside.free.items c.self.invariant.has_slots;
      room = c.self.invariant.room;
      recounted = charges_stay tree c.set_peaks_up.new.tree slots g.M.Meter.LEAVES c.self.inside.processes
          (g.M.Meter.content c.self.inside.meter) (g.M.Meter.held c.self.inside.meter) c.self.invariant.recounted;
    }

pub returns : goal.returns
returns g c =
    let tree = c.self.inside.tree in
    let s : State = state_of tree c.self.inside.processes in
    let found = c.find_longest-n.ensures in
    let sets = whole_set tree c.set_peaks_up.new.tree c.args.path.now c.args.peaks.now c.find_longest-n.result.0 found.inside c.requires found.missing (c.set_peaks_up.ensures (take c.find_longest-n.result.0 c.args.path.now) found.group found.row) in
    flat_changed (peaked_by c.args.path.now c.args.peaks.now) tree c.set_peaks_up.new.tree sets (set_peak c.args.path.now c.args.peaks.now) (λ q attr e. refl) s.home
    ∙ ap (λ (t : State). set_peaks c.args.path.now c.args.peaks.now t) c.self.view_is
