-- Inverse records: what a journal keeps of a recorded command, and the state that a record restores.
use Rattle.std.specs.Prelude.{ℕ, List, [], ◌∷◌, Option, Some, None}
use Rattle.std.specs.FinMap.{FinMap, insert, remove, retain_keys, entries}
use Rattle.std.specs.Ordering.{nat_cmp}
use Rattle.flat_model.specs.Path.{Path}
use Rattle.flat_model.specs.State.{State, Attr, Limit}
use Rattle.flat_model.specs.File.{LimitFile}
use Rattle.flat_model.specs.Command.{Command, MakeGroup, RemoveGroup, Fork, Exit, Move, SetLimit, Kill, Show, Locate, Undo}
use Rattle.flat_model.specs.Command.{Refusal, Exists, NoGroup, Descendants, Depth, NoSlot, RootFixed, HasChildren, HasProcesses, NoProcess, PidInUse, OverPidsMax, NoFile, NotReadable}
use Rattle.flat_model.specs.Step.{at_each, count_down, set_limit, peaks_upward, set_peaks, home_of, attr_of, limit_at, lives_in}

pub data Inverse : Type 0 where
  Made : Path → Inverse
  -- with the attributes of the group
  Removed : Path → Attr → Inverse
  -- with the old peaks of its home and of the groups above it, from there upward, without the root
  Forked : ℕ → List ℕ → Inverse
  -- with the old home of the process
  Exited : ℕ → Path → Inverse
  -- with the old home of the process, and the old peaks of its new home and of the groups above it, without the root
  Moved : ℕ → Path → List ℕ → Inverse
  -- with the old limit
  Limited : Path → LimitFile → Limit → Inverse
  -- a fork that this group's `pids.max` refused
  Counted : Path → Inverse
  -- each process with its old home, ascending
  Killed : List (ℕ × Path) → Inverse

-- each listed process at its listed home
abbrev pub place_all : List (ℕ × Path) → FinMap nat_cmp Path → FinMap nat_cmp Path
place_all [] home = home
place_all (e ∷ es) home = insert (place_all es home) e.0 e.1

-- the state that a record restores, without counting anything
abbrev pub back : Inverse → State → State
back (Made p) s = record s { groups = remove s.groups p }
back (Removed p attr) s = record s { groups = insert s.groups p attr }
back (Forked pid peaks) s = set_peaks (home_of s pid) peaks (record s { home = remove s.home pid })
back (Exited pid p) s = record s { home = insert s.home pid p }
back (Moved pid p peaks) s = set_peaks (home_of s pid) peaks (record s { home = insert s.home pid p })
back (Limited p file value) s = set_limit p file value s
back (Counted a) s = at_each (count_down a) s
back (Killed lost) s = record s { home = place_all lost s.home }

-- the processes at or below g with their homes, ascending
abbrev pub lost : State → Path → List (ℕ × Path)
lost s g = entries (retain_keys s.home (lives_in s g))

-- the record of an accepted command, made in the state before it; None for a command that changes nothing
abbrev pub inverse : State → Command → Option Inverse
inverse s (MakeGroup p) = Some (Made p)
inverse s (RemoveGroup p) = Some (Removed p (attr_of s p))
inverse s (Fork from child) = Some (Forked child (peaks_upward s (home_of s from)))
inverse s (Exit pid) = Some (Exited pid (home_of s pid))
inverse s (Move p pid) = Some (Moved pid (home_of s pid) (peaks_upward s p))
inverse s (SetLimit p file value) = Some (Limited p file (limit_at file (attr_of s p)))
inverse s (Kill g) = Some (Killed (lost s g))
inverse s (Show p file) = None
inverse s (Locate pid) = None
inverse s Undo = None

-- the record of a refusal: only a counted fork has one
abbrev pub inverse_of_refusal : Refusal → Option Inverse
inverse_of_refusal (OverPidsMax a) = Some (Counted a)
inverse_of_refusal Exists = None
inverse_of_refusal (NoGroup p) = None
inverse_of_refusal (Descendants p) = None
inverse_of_refusal (Depth p) = None
inverse_of_refusal NoSlot = None
inverse_of_refusal RootFixed = None
inverse_of_refusal HasChildren = None
inverse_of_refusal HasProcesses = None
inverse_of_refusal (NoProcess p) = None
inverse_of_refusal (PidInUse p) = None
inverse_of_refusal NoFile = None
inverse_of_refusal NotReadable = None

-- a journal has each recorded command with its record, newest first; this is the past that it describes, from the present state
abbrev pub past_of : State → List (Command × Inverse) → List (Command × State)
past_of s [] = []
past_of s (e ∷ journal) = (e.0, back e.1 s) ∷ past_of (back e.1 s) journal
