use Rattle.std.proofs.Common.{◌≡◌, refl, sym, subst}
use Rattle.std.proofs.lemmas.Bool.Decides.{Decides-eqb}
use Rattle.std.proofs.lemmas.Slice.Eq.{slice_eq-Decides}
use Rattle.pids_charge.specs.Peaks.{peaked_by, SetsPeaks}
use Rattle.pids_charge.proofs.PeakRises.{none_set}
use Rattle.pids_charge.proofs.FlatTotals.{slots_changed}
use Rattle.pids_charge.proofs.peaks.raise_along.Goals as goal

pub returns-then-eq-clause-set : goal.returns-then-eq-clause-set
returns-then-eq-clause-set g c = λ p there here.
    let same : c.args.reached.now ≡ c.args.peaks.now = (slice_eq-Decides Decides-eqb c.args.reached.now c.args.peaks.now c.eq.result c.eq.ensures).0 c.if-eq.true in
    subst (SetsPeaks c.args.tree.now c.args.tree.now p) (sym same) (none_set c.args.tree.now p c.args.peaks.now (c.requires.noted p there here))

pub returns-clause-slots : goal.returns-clause-slots
returns-clause-slots g c =
    let own = c.requires.group in
    slots_changed (peaked_by own.path c.args.reached.now) c.args.tree.now c.set_peaks_up.new.tree (c.set_peaks_up.ensures own.path own.there own.here) (λ q attr. refl) c.known-2.ensures.closed
