use Rattle.std.proofs.Common.{◌≡◌, ℕ, IfSome, sym, ap, ◌∙◌, subst}
use Rattle.std.specs.FinMap as fin
use Rattle.flat_model.specs.State.{State}
use Rattle.flat_model.specs.Counts as flat
use Rattle.pids_charge.specs.Recount.{state_of}
use Rattle.pids_charge.proofs.FlatGroups.{group-is}
use Rattle.pids_charge.proofs.GroupReads.{matched, told}
use Rattle.pids_charge.proofs.charges.Charges.descendants.Goals as goal

pub returns-clause-some : goal.returns-clause-some
returns-clause-some g c =
    matched c.descendants.result (fin.get c.self.inside.tree c.args.path.now) _ c.descendants.ensures ∙ sym (group-is c.args.self.now c.self.inside.tree c.self.inside.processes c.self.view_is c.args.path.now)

pub returns-clause-count : goal.returns-clause-count
returns-clause-count g c =
    let same = c.known.ensures.flat.counts (state_of c.self.inside.tree c.self.inside.processes).home c.args.path.now in
    subst (λ (k : ℕ). IfSome c.descendants.result (λ n. n ≡ k)) (sym same ∙ ap (λ (t : State). flat.descendant_count t c.args.path.now) c.self.view_is)
    (told c.descendants.result (fin.get c.self.inside.tree c.args.path.now) _ c.descendants.ensures)
