use Rattle.std.proofs.Common.{◌≡◌, ℕ, Some, sym, ap, ◌∙◌}
use Rattle.std.specs.BTreeMap.{insert_entry, is_at}
use Rattle.std.specs.Map.{lookup}
use Rattle.std.specs.Ordering.{nat_cmp}
use Rattle.pids_charge.proofs.Entries.{found_new, on_ok}
use Rattle.pids_charge.proofs.rows.put_row.Goals as goal

pub returns-clause-found : goal.returns-clause-found
returns-clause-found g c =
    let n : ℕ = c.get.result in
    on_ok c.insert.result (c.insert.new.self ≡ insert_entry nat_cmp c.args.processes.now n c.args.process) (lookup (is_at (nat_cmp c.args.pid)) c.insert.new.self ≡ Some c.args.process) (λ e.
    ap (λ (k : ℕ). lookup (is_at (nat_cmp k)) c.insert.new.self) (sym c.get.ensures.value) ∙ ap (lookup (is_at (nat_cmp n))) e
    ∙ found_new n c.args.process c.args.processes.now) c.insert.ensures.entries
