-- The numbers of a group.
use Rattle.std.specs.Prelude.{◌≡◌, ℕ, ◌-◌, ◌^◌, cond, true, false, Result, Ok, Err}
use Rattle.flat_model.specs.Path.{Path, is_root}
use Rattle.flat_model.specs.PathText.{PathFault}
use Rattle.flat_model.specs.State.{State, Limit, Unlimited, At}
use Rattle.flat_model.specs.Counts.{is_group, populated}
use Rattle.flat_model.specs.Step.{attr_of}
use Rattle.line_engine.specs.declared.listing.Unread.{Unread}
use Rattle.line_engine.specs.declared.listing.Unread.TheVariants as unread
use Rattle.line_engine.specs.declared.numbers.Number.{Number}
use Rattle.line_engine.specs.declared.numbers.Number.TheVariants as number

-- the greatest u64 means `max`
abbrev pub limit_number : Limit → ℕ
limit_number Unlimited = 2 ^ 64 - 1
limit_number (At n) = n

-- the peak and the limit of a group, and 1 if a process is in it or below it
abbrev pub peak_number : State → Path → ℕ
peak_number s p = (attr_of s p).peak

abbrev pub pids_limit : State → Path → ℕ
pids_limit s p = limit_number (attr_of s p).limits.pids

abbrev pub populated_number : State → Path → ℕ
populated_number s p = cond (populated s p) 1 0

-- the group at p has this number; or it doesn't exist; or it is the root, which has none
abbrev pub TellsNumberAt : State → Path → ℕ → Number → Type 0
TellsNumberAt s p n (number.Told m) = (is_root p ≡ false) × (is_group s p ≡ true) × (m ≡ n)
TellsNumberAt s p n number.NoGroup = is_group s p ≡ false
TellsNumberAt s p n number.NoFile = is_root p ≡ true
TellsNumberAt s p n number.BadPath = ⊥
TellsNumberAt s p n number.OutOfMemory = Unit {0}

-- the same for the group at the text, if it is a path
abbrev pub TellsNumber : State → (State → Path → ℕ) → Result Path PathFault → Number → Type 0
TellsNumber s number_of (Ok p) a = TellsNumberAt s p (number_of s p) a
TellsNumber s number_of (Err f) a = a ≡ number.BadPath

-- the result if no path was read
abbrev pub unread_number : Unread → Number
unread_number unread.BadPath = number.BadPath
unread_number unread.OutOfMemory = number.OutOfMemory
