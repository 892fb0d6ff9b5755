-- What the results of an audit mean.
use Rattle.std.specs.Prelude.{ℕ, List}
use Rattle.flat_model.specs.Log.{Entry, IsLegal, Session}
use Rattle.flat_model.specs.Audit as model
use Rattle.flat_model.specs.Audit.{FirstFault}
use Rattle.sessions.specs.SessionMeaning.{slots}
use Rattle.sessions.specs.declared.fault.CloseFault.{CloseFault}
use Rattle.sessions.specs.declared.fault.CloseFault.TheVariants.{Stranger, Mismatch, Missing, OutOfMemory}

-- the fault is the first of the receipts in their order, or out of memory
abbrev pub IsFirstFault : ℕ → List Entry → List Session → CloseFault → Type 0
IsFirstFault n log sessions (Stranger k) = FirstFault n log sessions (model.Stranger k)
IsFirstFault n log sessions (Mismatch i) = FirstFault n log sessions (model.Mismatch i)
IsFirstFault n log sessions (Missing i) = FirstFault n log sessions (model.Missing i)
IsFirstFault n log sessions OutOfMemory = Unit {0}

-- the fault is that of some legal log
pub record IsRefused (n : ℕ) (sessions : List Session) (fault : CloseFault) : Type 0 where
  pub log : List Entry
  pub legal : IsLegal slots log
  pub first : IsFirstFault n log sessions fault
