use Rattle.std.proofs.Common.{sym, ◌∙◌}
use Rattle.std.specs.BTreeMap.{is_at}
use Rattle.std.specs.Ordering.{nat_cmp}
use Rattle.pids_charge.proofs.Entries.{removed_none}
use Rattle.pids_charge.proofs.rows.take_row.Goals as goal

pub returns-clause-unchanged : goal.returns-clause-unchanged
returns-clause-unchanged g c = λ e. c.take.ensures.entries ∙ removed_none (is_at (nat_cmp c.get.result)) c.args.processes.now (sym c.take.ensures.value ∙ e)
