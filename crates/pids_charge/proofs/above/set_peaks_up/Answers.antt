use Rattle.std.proofs.Common.{◌≡◌, ℕ, ◌-◌, ◌<◌, length, take, get_or, option_map, arith, refl, ap, ◌∙◌}
use Rattle.std.specs.FinMap as fin
use Rattle.flat_model.specs.Path.{Path}
use Rattle.group_tree.specs.declared.attr.Attr.{Attr}
use Rattle.pids_charge.proofs.InRows.{read_inside}
use Rattle.pids_charge.proofs.RowsUp.{begun, further, of_step, part_step, peak_by, peaks_set, up_by}
use Rattle.pids_charge.proofs.ParentSteps.{at_own}
use Rattle.pids_charge.proofs.above.set_peaks_up.Goals as goal

pub loop-i-init : goal.loop-i-init
loop-i-init g c = record {
  way = λ p there here. record { here = at_own c.args.tree.now p c.args.row here; changed = begun p (peak_by c.args.peaks.now) c.args.tree.now };
}

pub row-attr-requires : goal.row-attr-requires
row-attr-requires g c =
    let own = c.requires.group in
    of_step c.args.tree.now c.loop-i.tree own.path c.loop-i.i c.loop-i.at
    (part_step c.args.tree.now own.path own.there c.known.ensures.prefixes (peak_by c.args.peaks.now) (λ k a. refl)
    c.loop-i.i (omega (arith, c.requires.many own.path own.there own.here)) c.loop-i.tree c.loop-i.at (c.loop-i.invariant.way own.path own.there own.here))

pub up-above-requires : goal.up-above-requires
up-above-requires g c =
    let own = c.requires.group in
    of_step c.args.tree.now c.loop-i.tree own.path c.loop-i.i c.loop-i.at
    (part_step c.args.tree.now own.path own.there c.known.ensures.prefixes (peak_by c.args.peaks.now) (λ k a. refl)
    c.loop-i.i (omega (arith, c.requires.many own.path own.there own.here)) c.loop-i.tree c.loop-i.at (c.loop-i.invariant.way own.path own.there own.here))

pub put-requires-clause-group : goal.put-requires-clause-group
put-requires-clause-group g c =
    let own = c.requires.group in
    of_step c.args.tree.now c.loop-i.tree own.path c.loop-i.i c.loop-i.at
    (part_step c.args.tree.now own.path own.there c.known.ensures.prefixes (peak_by c.args.peaks.now) (λ k a. refl)
    c.loop-i.i (omega (arith, c.requires.many own.path own.there own.here)) c.loop-i.tree c.loop-i.at (c.loop-i.invariant.way own.path own.there own.here))

pub loop-i-preserved : goal.loop-i-preserved
loop-i-preserved g c =
    let peaks = c.args.peaks.now in
    let row : Attr = c.row-attr.result.now in
    record {
      way = λ p there from.
          let part = c.loop-i.invariant.way p there from in
          let l : c.loop-i.i < length p = omega (arith, c.requires.many p there from) in
          let step = part_step c.args.tree.now p there c.known.ensures.prefixes (peak_by peaks) (λ k a. refl) c.loop-i.i l c.loop-i.tree c.loop-i.at part in
          let own : Path = take (length p - c.loop-i.i) p in
          let peak : get_or peaks c.loop-i.i 0 ≡ get_or peaks c.loop-i.i row.peak = read_inside peaks c.loop-i.i 0 row.peak (omega arith) in
          let put = c.put.ensures own step.there step.here ∙ ap (λ (n : ℕ). fin.insert c.loop-i.tree own (record row { peak = n })) peak in
          record {
            here = step.next c.up-above.result c.up-above.ensures;
            changed = λ q. further p (peak_by peaks) c.loop-i.i l c.args.tree.now c.loop-i.tree c.put.new.self row part.changed (c.row-attr.ensures own step.there step.here) put q
                ∙ ap (λ (n : ℕ). option_map (up_by p (peak_by peaks) n q) (fin.get c.args.tree.now q)) (omega arith);
          };
    }

pub returns : goal.returns
returns g c = λ p there from q.
    let peaks = c.args.peaks.now in
    let part = c.loop-i.invariant.way p there from in
    let whole : c.loop-i.i ≡ length p = omega (arith, c.requires.many p there from) in
    peaks_set p peaks c.args.tree.now c.loop-i.tree (λ r. part.changed r ∙ ap (λ (n : ℕ). option_map (up_by p (peak_by peaks) n r) (fin.get c.args.tree.now r)) whole) q
