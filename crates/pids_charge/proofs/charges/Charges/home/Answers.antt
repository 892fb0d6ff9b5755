use Rattle.std.proofs.Common.{option_map, sym, ap, ◌∙◌}
use Rattle.pids_charge.proofs.FlatGroups.{home-is}
use Rattle.pids_charge.proofs.charges.Charges.home.Goals as goal

pub returns-in_err-process : goal.returns-in_err-process
returns-in_err-process g c =
    rw c.from_residual.ensures
    (sym (home-is c.args.self.now c.self.inside.tree c.self.inside.processes c.self.view_is c.self.invariant.recounted.ordered c.args.pid
    ∙ ap (option_map (λ p. p.home)) (sym c.in_err-process.ensures)))

pub returns : goal.returns
returns g c =
    sym (home-is c.args.self.now c.self.inside.tree c.self.inside.processes c.self.view_is c.self.invariant.recounted.ordered c.args.pid
    ∙ ap (option_map (λ p. p.home)) (sym c.in_ok-process.ensures))
