-- The commands and their replies.
use Rattle.std.specs.Prelude.{ℕ, Bool, true, false, List}
use Rattle.flat_model.specs.Path.{Path}
use Rattle.flat_model.specs.State.{Limit}
use Rattle.flat_model.specs.File.{LimitFile, File}

pub data Command : Type 0 where
  -- `mkdir`, `rmdir`
  MakeGroup : Path → Command
  RemoveGroup : Path → Command
  -- a fork by the parent (first) of the child (second)
  Fork : ℕ → ℕ → Command
  Exit : ℕ → Command
  -- a move to the group of the process: a write to `cgroup.procs`
  Move : Path → ℕ → Command
  SetLimit : Path → LimitFile → Limit → Command
  -- a write to `cgroup.kill`
  Kill : Path → Command
  Show : Path → File → Command
  -- `/proc/PID/cgroup`
  Locate : ℕ → Command
  Undo : Command
  deriving Discrete as Command-discrete

pub data Refusal : Type 0 where
  Exists : Refusal
  NoGroup : Path → Refusal
  -- the group whose limit is met
  Descendants : Path → Refusal
  Depth : Path → Refusal
  NoSlot : Refusal
  RootFixed : Refusal
  HasChildren : Refusal
  HasProcesses : Refusal
  NoProcess : ℕ → Refusal
  PidInUse : ℕ → Refusal
  -- refused by the `pids.max` of this group
  OverPidsMax : Path → Refusal
  NoFile : Refusal
  NotReadable : Refusal
  deriving Discrete as Refusal-discrete

pub data Reply : Type 0 where
  Done : Reply
  Text : List ℕ → Reply
  Undone : Command → Reply
  Refused : Refusal → Reply
  NothingToUndo : Reply
  deriving Discrete as Reply-discrete

abbrev pub is_undo : Command → Bool
is_undo Undo = true
is_undo (Show p file) = false
is_undo (Locate pid) = false
is_undo (MakeGroup p) = false
is_undo (RemoveGroup p) = false
is_undo (Fork from child) = false
is_undo (Exit pid) = false
is_undo (Move p pid) = false
is_undo (SetLimit p file value) = false
is_undo (Kill g) = false

-- whether an accepted command changes the state, and so is recorded
abbrev pub changes : Command → Bool
changes (Show p file) = false
changes (Locate pid) = false
changes (MakeGroup p) = true
changes (RemoveGroup p) = true
changes (Fork from child) = true
changes (Exit pid) = true
changes (Move p pid) = true
changes (SetLimit p file value) = true
changes (Kill g) = true
changes Undo = false

-- whether a refusal raises event totals, and so is recorded
abbrev pub is_counted : Refusal → Bool
is_counted (OverPidsMax a) = true
is_counted Exists = false
is_counted (NoGroup p) = false
is_counted (Descendants p) = false
is_counted (Depth p) = false
is_counted NoSlot = false
is_counted RootFixed = false
is_counted HasChildren = false
is_counted HasProcesses = false
is_counted (NoProcess p) = false
is_counted (PidInUse p) = false
is_counted NoFile = false
is_counted NotReadable = false
