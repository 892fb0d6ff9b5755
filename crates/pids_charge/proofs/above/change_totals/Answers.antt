use Rattle.std.proofs.Common.{◌≡◌, ℕ, ◌-◌, ◌<◌, length, take, option_map, arith, refl, sym, ap, ◌∙◌, ◌^◌}
use Rattle.std.specs.FinMap as fin
use Rattle.flat_model.specs.Path.{Path}
use Rattle.group_tree.specs.declared.attr.Attr.{Attr}
use Rattle.pids_charge.specs.GroupRows.{stepped}
use Rattle.pids_charge.proofs.RowsUp.{begun, further, of_step, part_step, way_left, still_there, rows_at_kept, total_by, totals_changed, up_by}
use Rattle.pids_charge.proofs.ParentSteps.{at_own, at_root}
use Rattle.pids_charge.proofs.above.change_totals.Goals as goal
use Rattle.pids_charge.proofs.above.change_totals.Goals.{else-loop-up-test, then-loop-up-test+then-at-eq0}

pub loop-up-init : goal.loop-up-init
loop-up-init g c = record {
  bound = omega arith;
  few = λ p there here. omega arith;
  way = λ p there here. record { here = at_own c.args.tree.now p c.args.row here; changed = begun p (total_by (stepped (2 ^ 64 - 1) c.args.change)) c.args.tree.now };
}

pub row-attr-requires : goal.row-attr-requires
row-attr-requires g c =
    let own = c.requires.group in
    of_step c.args.tree.now c.loop-up.tree own.path c.loop-up._up c.loop-up.at
    (part_step c.args.tree.now own.path own.there c.known.ensures.prefixes (total_by (stepped (2 ^ 64 - 1) c.args.change)) (λ k a. refl)
    c.loop-up._up (way_left c.args.tree.now own.path own.there c.known.ensures.prefixes c.loop-up._up c.loop-up.at (c.loop-up.invariant.way own.path own.there own.here).here (omega (arith, c.if-at-eq0.false)))
    c.loop-up.tree c.loop-up.at (c.loop-up.invariant.way own.path own.there own.here))

pub up-above-requires : goal.up-above-requires
up-above-requires g c =
    let own = c.requires.group in
    of_step c.args.tree.now c.loop-up.tree own.path c.loop-up._up c.loop-up.at
    (part_step c.args.tree.now own.path own.there c.known.ensures.prefixes (total_by (stepped (2 ^ 64 - 1) c.args.change)) (λ k a. refl)
    c.loop-up._up (way_left c.args.tree.now own.path own.there c.known.ensures.prefixes c.loop-up._up c.loop-up.at (c.loop-up.invariant.way own.path own.there own.here).here (omega (arith, c.if-at-eq0.false)))
    c.loop-up.tree c.loop-up.at (c.loop-up.invariant.way own.path own.there own.here))

pub put-requires-clause-group : goal.put-requires-clause-group
put-requires-clause-group g c =
    let own = c.requires.group in
    of_step c.args.tree.now c.loop-up.tree own.path c.loop-up._up c.loop-up.at
    (part_step c.args.tree.now own.path own.there c.known.ensures.prefixes (total_by (stepped (2 ^ 64 - 1) c.args.change)) (λ k a. refl)
    c.loop-up._up (way_left c.args.tree.now own.path own.there c.known.ensures.prefixes c.loop-up._up c.loop-up.at (c.loop-up.invariant.way own.path own.there own.here).here (omega (arith, c.if-at-eq0.false)))
    c.loop-up.tree c.loop-up.at (c.loop-up.invariant.way own.path own.there own.here))

pub loop-up-preserved : goal.loop-up-preserved
loop-up-preserved g c =
    let f : ℕ → Attr → Attr = total_by (stepped (2 ^ 64 - 1) c.args.change) in
    let row : Attr = c.row-attr.result.now in
    record {
      bound = omega arith;
      few = λ p there here.
          let left = way_left c.args.tree.now p there c.known.ensures.prefixes c.loop-up._up c.loop-up.at (c.loop-up.invariant.way p there here).here (omega (arith, c.if-at-eq0.false)) in
          omega (arith, left);
      way = λ p there here.
          let part = c.loop-up.invariant.way p there here in
          let l : c.loop-up._up < length p = way_left c.args.tree.now p there c.known.ensures.prefixes c.loop-up._up c.loop-up.at part.here (omega (arith, c.if-at-eq0.false)) in
          let step = part_step c.args.tree.now p there c.known.ensures.prefixes f (λ k a. refl) c.loop-up._up l c.loop-up.tree c.loop-up.at part in
          let own : Path = take (length p - c.loop-up._up) p in
          let put = c.put.ensures own step.there step.here ∙ ap (λ (n : ℕ). fin.insert c.loop-up.tree own (record row { total = n })) c.of-total.ensures in
          record {
            here = step.next c.up-above.result c.up-above.ensures;
            changed = λ q. further p f c.loop-up._up l c.args.tree.now c.loop-up.tree c.put.new.self row part.changed (c.row-attr.ensures own step.there step.here) put q
                ∙ ap (λ (n : ℕ). option_map (up_by p f n q) (fin.get c.args.tree.now q)) (omega arith);
          };
    }

pub row-own-requires : goal.row-own-requires
row-own-requires g c =
    let own = c.requires.group in
    let f : ℕ → Attr → Attr = total_by (stepped (2 ^ 64 - 1) c.args.change) in
    let part = c.loop-up.invariant.way own.path own.there own.here in
    record {
      path = own.path;
      there = still_there own.path f (λ k a. refl) c.loop-up._up c.args.tree.now c.loop-up.tree part.changed own.path own.there;
      here = own.here ∙ sym (rows_at_kept own.path f (λ k a. refl) c.loop-up._up c.args.tree.now c.loop-up.tree part.changed own.path);
    }

pub put-requires-2-clause-group : goal.put-requires-2-clause-group
put-requires-2-clause-group g c =
    let own = c.requires.group in
    let f : ℕ → Attr → Attr = total_by (stepped (2 ^ 64 - 1) c.args.change) in
    let part = c.loop-up.invariant.way own.path own.there own.here in
    record {
      path = own.path;
      there = still_there own.path f (λ k a. refl) c.loop-up._up c.args.tree.now c.loop-up.tree part.changed own.path own.there;
      here = own.here ∙ sym (rows_at_kept own.path f (λ k a. refl) c.loop-up._up c.args.tree.now c.loop-up.tree part.changed own.path);
    }

pub returns : goal.returns
returns g c = λ p home from q.
    let f : ℕ → Attr → Attr = total_by (stepped (2 ^ 64 - 1) c.args.change) in
    let row : Attr = c.row-own.result.now in
    let part = c.loop-up.invariant.way p home from in
    let few = c.loop-up.invariant.few p home from in
    let short = c.requires.shallow p home in
    let there = still_there p f (λ k a. refl) c.loop-up._up c.args.tree.now c.loop-up.tree part.changed p home in
    let here = from ∙ sym (rows_at_kept p f (λ k a. refl) c.loop-up._up c.args.tree.now c.loop-up.tree part.changed p) in
    let whole : c.loop-up._up ≡ length p = elim c.loop-up-test.branch [
      | else-loop-up-test w ↦ omega (arith, few, short, w.loop-up-test.false)
      | then-loop-up-test+then-at-eq0 w ↦
          let top = at_root c.args.tree.now p c.loop-up.at (length p - c.loop-up._up) (omega arith) part.here (omega (arith, w.if-at-eq0.true)) in
          omega (arith, few, top)
    ] in
    totals_changed (stepped (2 ^ 64 - 1) c.args.change) p c.args.tree.now c.loop-up.tree c.put-2.new.self row
    (λ r. part.changed r ∙ ap (λ (n : ℕ). option_map (up_by p f n r) (fin.get c.args.tree.now r)) whole) (c.row-own.ensures p there here)
    (c.put-2.ensures p there here ∙ ap (λ (n : ℕ). fin.insert c.loop-up.tree p (record row { local = n })) c.of-local.ensures) q
