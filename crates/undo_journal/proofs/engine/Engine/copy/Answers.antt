use Rattle.std.proofs.Common.{◌≡◌, ℕ, map, ◌∙◌, subst}
use Rattle.undo_journal.specs.History.{journal_entry, records, IsHistory}
use Rattle.undo_journal.proofs.EngineCopies.{same_timeline, same_history}
use Rattle.pids_charge.specs.declared.plain.TheConstants.{SLOTS}
use Rattle.undo_journal.proofs.engine.Engine.copy.Goals as goal

entries : (g : _) (c : goal.In_ok-journal g) → map journal_entry c.in_ok-journal.journal.items ≡ map journal_entry c.self.inside.journal.items
entries g c = rw c.as_slice.ensures.value at c.in_ok-journal.ensures

pub invariant_of-result : goal.invariant_of-result
invariant_of-result g c =
    same_history c.self.inside.charges c.in_ok-charges.charges c.self.inside.journal.items c.in_ok-journal.journal.items c.in_ok-charges.ensures (entries g c) SLOTS c.self.inside.forgotten
    (subst (λ (n : ℕ). IsHistory n c.self.inside.forgotten c.self.inside.charges (records c.self.inside.journal.items)) c.requires c.self.invariant)

pub returns : goal.returns
returns g c =
    same_timeline c.self.inside.charges c.in_ok-charges.charges c.self.inside.journal.items c.in_ok-journal.journal.items c.in_ok-charges.ensures (entries g c) c.self.inside.forgotten ∙ c.self.view_is
