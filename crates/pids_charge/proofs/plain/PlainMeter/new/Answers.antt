use Rattle.std.proofs.Common.{◌≡◌, ℕ, replicate, ap, ◌∙◌, arith}
use Rattle.pids_charge.specs.declared.plain.TheConstants.{SLOTS, LEAVES}
use Rattle.pids_charge.proofs.Empty.{empty_table}
use Rattle.pids_charge.proofs.plain.PlainMeter.new.Goals as goal

pub returns-clause-zeros : goal.returns-clause-zeros
returns-clause-zeros g c =
    let whole : c.loop-slot._slot ≡ SLOTS = omega (arith, c.loop-slot-test.false, c.loop-slot.auto._slot-end) in
    c.loop-slot.invariant ∙ ap (λ (n : ℕ). replicate n (replicate LEAVES 0)) whole

pub returns-clause-empty : goal.returns-clause-empty
returns-clause-empty g c = empty_table c.loop-slot.rows.items (returns-clause-zeros g c)
