-- What contracts see of a desk.
use Rattle.std.specs.Prelude.{ℕ}
use Rattle.std.specs.declared.alloc.Global.{Global}
use Rattle.std.specs.declared.sync.Arc.{Arc}
use Rattle.sessions.specs.declared.shared.Shared.{Shared}

-- the most sessions that it can have, and the pointer to what it shares with them: its lock, and the condition variables on which they sleep
pub record Desk : Type 0 where
  pub sessions : ℕ
  pub shared : Arc Shared Global
