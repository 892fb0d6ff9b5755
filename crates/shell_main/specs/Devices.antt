-- What a contract sees of the devices of a shell.
use Rattle.std.specs.Prelude.{ℕ, Bool, List, Option}

-- a source: the bytes that it has left, if it exposes them, and whether a read failed
pub record SourceState : Type 0 where
  pub left : Option (List ℕ)
  pub failed : Bool

-- a sink: the bytes that it has taken, if it exposes them, whether a write or a flush failed, and whether all was flushed
pub record SinkState : Type 0 where
  pub taken : Option (List ℕ)
  pub failed : Bool
  pub flushed : Bool
