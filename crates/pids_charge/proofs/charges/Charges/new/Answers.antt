use Rattle.std.proofs.Common.{◌≡◌, ◌∷◌, [], List, refl, ap, ◌∙◌, arith, subst, sym}
use Rattle.pids_charge.specs.Lists.{Row}
use Rattle.pids_charge.specs.Recount.{AreAllFree, IsWhole, state_of}
use Rattle.process_table.specs.declared.process.Process.{Process}
use Rattle.std.specs.BTreeMap.{insert_entry}
use Rattle.std.specs.Ordering.{nat_cmp}
use Rattle.std.specs.Vec.{vec_capacity}
use Rattle.pids_charge.proofs.StartState.{start-is, started}
use Rattle.pids_charge.proofs.charges.Charges.new.Goals as goal

pub invariant_of-result : goal.invariant_of-result
invariant_of-result g c =
    let x : Process g.row.A.Denot = record { home = c.in_ok-home.home; row = 0; leaf = 0 } in
    let es : c.put_row.new.processes ≡ (1, x) ∷ [] = c.in_ok-put_row.ensures.entries
    ∙ ap (λ (rows : List (Row g.row.A.Denot)). insert_entry nat_cmp rows c.first.result x) c.in_ok-processes.ensures
    ∙ ap (λ k. (k, x) ∷ []) c.first.ensures in
    subst (λ (rows : List (Row g.row.A.Denot)). IsWhole g.M.Meter.SLOTS g.M.Meter.LEAVES c.in_ok-tree.tree rows c.in_ok-free.free.items
    (vec_capacity c.in_ok-free.free) (g.M.Meter.content c.args.meter) (g.M.Meter.held c.args.meter)) (sym es)
    (started c.new.result c.in_ok-tree.tree c.in_ok-tree.ensures x c.in_ok-home.ensures g.M.Meter.SLOTS g.M.Meter.LEAVES
    (vec_capacity c.in_ok-free.free) c.in_ok-free.free.items (g.M.Meter.content c.args.meter) (g.M.Meter.held c.args.meter)
    c.known.ensures.closed
    (subst (λ n. AreAllFree n c.in_ok-free.free.items) c.SLOTS.ensures c.in_ok-free.ensures.free) (omega (
      arith,
      c.SLOTS.ensures,
    )) (omega (arith, c.SLOTS.ensures, c.in_ok-free.ensures.room)) c.requires refl refl g.met.M.Meter.leaves_positive)

pub returns : goal.returns
returns g c =
    let x : Process g.row.A.Denot = record { home = c.in_ok-home.home; row = 0; leaf = 0 } in
    let es : c.put_row.new.processes ≡ (1, x) ∷ [] = c.in_ok-put_row.ensures.entries
    ∙ ap (λ (rows : List (Row g.row.A.Denot)). insert_entry nat_cmp rows c.first.result x) c.in_ok-processes.ensures
    ∙ ap (λ k. (k, x) ∷ []) c.first.ensures in
    ap (state_of c.in_ok-tree.tree) es ∙ start-is c.new.result c.in_ok-tree.tree c.in_ok-tree.ensures x c.in_ok-home.ensures c.new.ensures.group
