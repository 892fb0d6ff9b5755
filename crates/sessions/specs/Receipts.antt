-- How a call of a session leaves the session.
use Rattle.std.specs.Prelude.{◌≡◌, ℕ, [], ◌∷◌, ◌++◌, Result, Ok, Err}
use denote.Ref.{Bor}
use Rattle.flat_model.specs.Command.{Command}
use Rattle.flat_model.specs.Log.{Receipt, Session}
use Rattle.sessions.specs.declared.fault.RunFault.{RunFault}
use Rattle.sessions.specs.Served.{Appends, AppendsAt}

-- one more receipt, of this command
abbrev pub Last : Command → Session → Session → Type 0
Last c before after = (after.number ≡ before.number) × Appends c before.receipts after.receipts

abbrev pub LastAt : ℕ → Command → Session → Session → Type 0
LastAt turn c before after =
    (after.number ≡ before.number) × AppendsAt turn c before.receipts after.receipts

abbrev pub with_receipt : Session → Receipt → Session
with_receipt s r = record s { receipts = s.receipts ++ r ∷ [] }

-- the session has this one more receipt, which is of this command; otherwise it is unchanged
abbrev pub AddsReceipt : Command → Session → Session → Result (Bor Receipt) RunFault → Type 0
AddsReceipt c before after (Ok r) = (after ≡ with_receipt before r.now) × (r.now.command ≡ c)
AddsReceipt c before after (Err e) = after ≡ before

-- the same, with this number
abbrev pub AddsReceiptAt : ℕ → Command → Session → Session → Result (Bor Receipt) RunFault → Type 0
AddsReceiptAt turn c before after (Ok r) = (after ≡ with_receipt before r.now) × (r.now.command ≡ c) × (r.now.number ≡ turn)
AddsReceiptAt turn c before after (Err e) = after ≡ before
