use Rattle.std.proofs.Common.{◌≡◌, ◌+◌, ◌-◌, ◌^◌, length, sym, ap, ◌∙◌, arith}
use Rattle.std.specs.Prelude.{min}
use Rattle.undo_journal.specs.Beginning.{forgets}
use Rattle.undo_journal.specs.History.{records, timeline_of}
use Rattle.undo_journal.proofs.Histories.{records_length, depth_is}
use Rattle.undo_journal.proofs.TotalBounds.{first_again}
use Rattle.undo_journal.proofs.engine.Engine.forget.Goals as goal

pub invariant_of-self : goal.invariant_of-self
invariant_of-self g c =
    let e : c.len-dropped.result ≡ length c.self.inside.journal.items = omega (arith, c.self.inside.journal.ok.0) in
    rw (c.drop_entries.ensures.none)
    (first_again g.M.Meter.SLOTS c.self.inside.forgotten c.self.inside.charges (records c.self.inside.journal.items) c.self.invariant c.saturating_add-self-inside.result
    (c.saturating_add-self-inside.ensures ∙ ap (λ n. min (c.self.inside.forgotten + n) (2 ^ 64 - 1)) (e ∙ sym (records_length c.self.inside.journal.items))))

pub returns : goal.returns
returns g c =
    let e : c.len-dropped.result ≡ length c.self.inside.journal.items = omega (arith, c.self.inside.journal.ok.0) in
    let more =
    c.saturating_add-self-inside.ensures
    ∙ ap (λ n. min (c.self.inside.forgotten + n) (2 ^ 64 - 1)) (e ∙ depth_is c.self.inside.charges c.self.inside.journal.items) in
    (λ i. timeline_of (more i) c.self.inside.charges (c.drop_entries.ensures.none i)) ∙ ap forgets c.self.view_is
