use Rattle.std.proofs.Common.{ℕ, Some, None, get_or}
use Rattle.sessions.proofs.DueTurns.{no_later_still, first_below, first_of_noted}
use Rattle.sessions.proofs.waits.Waits.note.Goals as goal

-- the first turn is no later than the one that was noted, nor than the others, since it is no later than before
pub invariant_of-self : goal.invariant_of-self
invariant_of-self c =
    let turns = c.self.inside.turns in
    let first = c.self.inside.first in
    let least = Some c.least_of.result in
    first_of_noted least turns c.from-at.result (Some c.least_of-least.result) c.least_of.ensures.this
    (λ k. no_later_still (get_or turns k None) first least (c.self.invariant k) (first_below first c.least_of.result c.least_of.ensures.noted))
