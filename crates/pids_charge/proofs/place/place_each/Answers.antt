use Rattle.std.proofs.Common.{drop, ap, ◌∙◌}
use Rattle.pids_charge.specs.Lists.{without}
use Rattle.pids_charge.proofs.Entries.{to_sorted}
use Rattle.pids_charge.proofs.ListedProcesses.{taken_out, new_drop, to_new}
use Rattle.pids_charge.proofs.place.place_each.Goals as goal

pub returns-then-at-gt0-clause-kept : goal.returns-then-at-gt0-clause-kept
returns-then-at-gt0-clause-kept g c =
    let es = c.args.processes.now in
    let sorted = to_sorted es c.known.ensures in
    let rest = drop c.place_last-at.result c.args.list.now in
    c.take_out.ensures ∙ ap (without rest) c.place_last-at.ensures.placed
    ∙ taken_out c.args.tree.now c.args.leaf es sorted rest (new_drop c.args.tree.now c.args.leaf es sorted c.place_last-at.result
    c.args.list.now (to_new es c.args.list.now c.requires.new, c.requires.apart))
