use Rattle.std.proofs.Common.{Some, ◌+◌, sym, ap, ◌∙◌, subst, refl}
use Rattle.std.proofs.Math.ListN.{set}
use Rattle.group_tree.specs.Groups.{Groups}
use Rattle.group_tree.specs.declared.attr.Attr.{Attr}
use Rattle.flat_model.specs.Path.{Path, parent}
use Rattle.pids_charge.specs.GroupRows.{HasTable, KeepsPaths, attrs_of, with_rows}
use Rattle.pids_charge.proofs.FlatGroups.{inserted}
use Rattle.pids_charge.proofs.InRows.{in_any_case}
use Rattle.pids_charge.proofs.ParentRows.{as_long, long_table}
use Rattle.pids_charge.proofs.PathRows.{kept_alike, kept_made}
use Rattle.pids_charge.proofs.RowReads.{not_inserted}
use Rattle.pids_charge.proofs.TableChanges.{made_row, made_seen, made_table}
use Rattle.pids_charge.proofs.groups.GroupTable.insert.Goals as goal

pub invariant_of-self : goal.invariant_of-self
invariant_of-self g c =
    long_table c.self.inside.tree c.self.inside.rows.items c.self.invariant.has_rows c.args.self.now c.self.view_is c.self.invariant.has_parents
    c.lengthen.new.rows.items c.lengthen.ensures.no_fewer c.lengthen.ensures.kept
    c.self.invariant.has_counts c.self.inside.kept c.self.invariant.keeps_paths

pub returns-in_err-lengthen-clause-kept : goal.returns-in_err-lengthen-clause-kept
returns-in_err-lengthen-clause-kept g c =
    in_any_case c.from_residual.result (as_long c.self.inside.tree c.self.inside.rows.items c.self.invariant.has_rows c.args.self.now c.self.view_is c.self.invariant.has_parents
    c.lengthen.new.rows.items c.lengthen.ensures.no_fewer c.lengthen.ensures.kept)

pub invariant_of-self-in_err-copied : goal.invariant_of-self-in_err-copied
invariant_of-self-in_err-copied g c =
    long_table c.self.inside.tree c.self.inside.rows.items c.self.invariant.has_rows c.args.self.now c.self.view_is c.self.invariant.has_parents
    c.lengthen.new.rows.items c.lengthen.ensures.no_fewer c.lengthen.ensures.kept
    c.self.invariant.has_counts c.admit.new.self (kept_alike c.self.inside.tree c.self.inside.kept c.admit.new.self c.admit.ensures.same c.self.invariant.keeps_paths)

pub returns-in_err-copied-clause-kept : goal.returns-in_err-copied-clause-kept
returns-in_err-copied-clause-kept g c =
    in_any_case c.from_residual-in_err-copied.result (as_long c.self.inside.tree c.self.inside.rows.items c.self.invariant.has_rows c.args.self.now c.self.view_is c.self.invariant.has_parents
    c.lengthen.new.rows.items c.lengthen.ensures.no_fewer c.lengthen.ensures.kept)

pub invariant_of-self-then-is_err : goal.invariant_of-self-then-is_err
invariant_of-self-then-is_err g c =
    let x : Attr = record { limits = c.args.attr.limits; local = c.args.attr.local; total = c.args.attr.total; peak = c.args.attr.peak; slot = c.args.attr.slot + 1 } in
    let gone = not_inserted c.self.inside.tree c.insert.new.self c.args.path.now x c.insert.result (sym c.is_err.ensures.value ∙ c.if-is_err.true) c.insert.ensures in
    subst (λ (t : Groups). HasTable t c.lengthen.new.rows.items c.admit.new.self) (sym gone)
    (long_table c.self.inside.tree c.self.inside.rows.items c.self.invariant.has_rows c.args.self.now c.self.view_is c.self.invariant.has_parents
    c.lengthen.new.rows.items c.lengthen.ensures.no_fewer c.lengthen.ensures.kept
    c.self.invariant.has_counts c.admit.new.self (kept_alike c.self.inside.tree c.self.inside.kept c.admit.new.self c.admit.ensures.same c.self.invariant.keeps_paths))

pub returns-then-is_err-clause-kept : goal.returns-then-is_err-clause-kept
returns-then-is_err-clause-kept g c =
    let x : Attr = record { limits = c.args.attr.limits; local = c.args.attr.local; total = c.args.attr.total; peak = c.args.attr.peak; slot = c.args.attr.slot + 1 } in
    let gone = not_inserted c.self.inside.tree c.insert.new.self c.args.path.now x c.insert.result (sym c.is_err.ensures.value ∙ c.if-is_err.true) c.insert.ensures in
    ap (λ (t : Groups). with_rows t (attrs_of c.lengthen.new.rows.items)) gone
    ∙ as_long c.self.inside.tree c.self.inside.rows.items c.self.invariant.has_rows c.args.self.now c.self.view_is c.self.invariant.has_parents
    c.lengthen.new.rows.items c.lengthen.ensures.no_fewer c.lengthen.ensures.kept

pub change_below-requires : goal.change_below-requires
change_below-requires g c =
    let x : Attr = record { limits = c.args.attr.limits; local = c.args.attr.local; total = c.args.attr.total; peak = c.args.attr.peak; slot = c.args.attr.slot + 1 } in
    let done = inserted c.self.inside.tree c.insert.new.self c.args.path.now x c.insert.result c.insert.ensures (sym c.is_err.ensures.value ∙ c.if-is_err.false) in
    let row = made_row c.self.inside.tree c.self.inside.rows.items c.self.invariant.has_rows c.args.self.now c.self.view_is c.self.invariant.has_parents
    c.lengthen.new.rows.items c.lengthen.ensures.no_fewer c.lengthen.ensures.kept c.args.path.now x c.args.attr c.requires.below_root refl c.requires.absent c.requires.parent c.requires.free
    c.args.above c.requires.above c.insert.new.self done.1 c.known.ensures.closed c.from.result c.from.ensures c.in_ok-lengthen.ensures.long c.known-2.ensures.shallow in
    record { tree = c.insert.new.self; path = parent c.args.path.now; is = row }

pub invariant_of-self-2 : goal.invariant_of-self-2
invariant_of-self-2 g c =
    let x : Attr = record { limits = c.args.attr.limits; local = c.args.attr.local; total = c.args.attr.total; peak = c.args.attr.peak; slot = c.args.attr.slot + 1 } in
    let done = inserted c.self.inside.tree c.insert.new.self c.args.path.now x c.insert.result c.insert.ensures (sym c.is_err.ensures.value ∙ c.if-is_err.false) in
    let row = made_row c.self.inside.tree c.self.inside.rows.items c.self.invariant.has_rows c.args.self.now c.self.view_is c.self.invariant.has_parents
    c.lengthen.new.rows.items c.lengthen.ensures.no_fewer c.lengthen.ensures.kept c.args.path.now x c.args.attr c.requires.below_root refl c.requires.absent c.requires.parent c.requires.free
    c.args.above c.requires.above c.insert.new.self done.1 c.known.ensures.closed c.from.result c.from.ensures c.in_ok-lengthen.ensures.long c.known-2.ensures.shallow in
    made_table c.self.inside.tree c.self.inside.rows.items c.self.invariant.has_rows c.args.self.now c.self.view_is c.self.invariant.has_parents
    c.lengthen.new.rows.items c.lengthen.ensures.no_fewer c.lengthen.ensures.kept c.args.path.now x c.args.attr c.requires.below_root refl c.requires.absent c.requires.parent c.requires.free
    c.args.above c.requires.above c.insert.new.self done.1 c.known.ensures.closed c.from.result c.from.ensures c.in_ok-lengthen.ensures.long
    c.requires.few c.self.invariant.has_counts c.change_below.new.rows.items c.change_below.ensures.attrs c.change_below.ensures.ups
    (c.change_below.ensures.below c.insert.new.self (parent c.args.path.now) row)
    c.keep.new.self (subst (KeepsPaths c.insert.new.self) (sym (c.keep.ensures ∙ ap (λ (p : Path). set c.admit.new.self (c.args.attr.slot + 1) (Some p)) c.in_ok-copied.ensures.copied))
    (kept_made c.self.inside.tree c.self.inside.kept c.self.invariant.keeps_paths c.args.path.now x done.0 c.insert.new.self done.1
    c.admit.new.self c.admit.ensures.same c.in_ok-copied.ensures.long))

pub returns-clause-made : goal.returns-clause-made
returns-clause-made g c =
    let x : Attr = record { limits = c.args.attr.limits; local = c.args.attr.local; total = c.args.attr.total; peak = c.args.attr.peak; slot = c.args.attr.slot + 1 } in
    let done = inserted c.self.inside.tree c.insert.new.self c.args.path.now x c.insert.result c.insert.ensures (sym c.is_err.ensures.value ∙ c.if-is_err.false) in
    made_seen c.self.inside.tree c.self.inside.rows.items c.self.invariant.has_rows c.args.self.now c.self.view_is c.self.invariant.has_parents
    c.lengthen.new.rows.items c.lengthen.ensures.no_fewer c.lengthen.ensures.kept c.args.path.now x c.args.attr c.requires.below_root refl c.requires.absent c.requires.parent c.requires.free
    c.args.above c.requires.above c.insert.new.self done.1 c.known.ensures.closed c.from.result c.from.ensures c.in_ok-lengthen.ensures.long
    c.change_below.new.rows.items c.change_below.ensures.attrs
