-- Logs of a desk: which session issued which command, and the reply. A session keeps a receipt for each of its commands.
use Rattle.std.specs.Prelude.{◌≡◌, ℕ, List, map}
use Rattle.flat_model.specs.Command.{Command, Reply}
use Rattle.flat_model.specs.Machine.{Machine, replies, after_all, new_machine}

pub record Entry : Type 0 where
  -- the session's number
  pub session : ℕ
  pub command : Command
  pub reply : Reply

-- the machine, run from its start over the log's commands, gives the log's replies
abbrev pub IsLegal : ℕ → List Entry → Type 0
IsLegal slots log = replies slots new_machine (map (λ e. e.command) log) ≡ map (λ e. e.reply) log

-- the machine after the log
abbrev pub log_end : ℕ → List Entry → Machine
log_end slots log = after_all slots (map (λ e. e.command) log)

-- ---- receipts

pub record Receipt : Type 0 where
  -- the number of the entry in the log, from 0
  pub number : ℕ
  pub command : Command
  pub reply : Reply

pub record Session : Type 0 where
  pub number : ℕ
  pub receipts : List Receipt

-- the log entry of a receipt of this session
abbrev pub entry_of : ℕ → Receipt → Entry
entry_of session r = record { session = session; command = r.command; reply = r.reply }
