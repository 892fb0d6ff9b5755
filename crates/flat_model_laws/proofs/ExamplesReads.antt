-- The definitions of a command, said of what it reads of a state: look-ups and entries. Where these are given by lists, they compute.
use Rattle.std.proofs.Common.{◌≡◌, ℕ, ◌+◌, ◌-◌, Bool, not, ◌&&◌, List, [], ◌++◌, map, length, ltb, refl, Option, None, option_map}
use Rattle.std.specs.Prelude.{codes, decimal, count_by, filter, flat_map, unwrap_or, is_some}
use Rattle.std.specs.List.{list_any}
use Rattle.std.specs.Option.{option_or}
use Rattle.std.specs.FinMap.{get, entries, len, find, get-entries, len-entries}
use Rattle.std.specs.Ordering.{nat_cmp}
use Rattle.flat_model.specs.Path.{Path, path_cmp, at_or_below, strictly_below, same_path, is_root, parent, upward}
use Rattle.flat_model.specs.PathText.{path_text}
use Rattle.flat_model.specs.Refuse.{refuse}
use Rattle.flat_model.specs.State.{State, Attr, fresh}
use Rattle.flat_model.specs.Counts.{exceeds, reaches, asks, first_path}
use Rattle.flat_model.specs.File.{File, Procs, Events, Stat, LimitOf, KillFile, PidsCurrent, PidsPeak, PidsEvents, PidsEventsLocal, is_pids_max, readable, on_root}
use Rattle.flat_model.specs.Command.{Command, MakeGroup, RemoveGroup, Fork, Exit, Move, SetLimit, Kill, Show, Locate, Undo, Refusal, Exists}
use Rattle.flat_model.specs.Command.{NoGroup, Descendants, Depth, NoSlot, RootFixed, HasChildren, HasProcesses, NoProcess, PidInUse}
use Rattle.flat_model.specs.Command.{OverPidsMax, NoFile, NotReadable, Reply, Done, Text}
use Rattle.flat_model.specs.Step.{first_refusal, refusal, limit_at}
use Rattle.flat_model.specs.FileText.{line, limit_text, flag_text, file_text}
use Rattle.flat_model.specs.Machine.{accepted}

-- the state as the lists of its entries
pub record Lists : Type 0 where
  pub groups : List (Path × Attr)
  pub home : List (ℕ × Path)

abbrev pub lists_of : State → Lists
lists_of s = record { groups = entries s.groups; home = entries s.home }

-- what a command asks a state: two look-ups, the entries in order, and how many groups there are
pub record Reads : Type 0 where
  pub group : Path → Option Attr
  pub home : ℕ → Option Path
  pub groups : List (Path × Attr)
  pub homes : List (ℕ × Path)
  pub group_count : ℕ

abbrev pub reads_of : State → Reads
reads_of s = record { group = get s.groups; home = get s.home; groups = entries s.groups; homes = entries s.home; group_count = len s.groups }

abbrev pub reads_in : Lists → Reads
reads_in l = record { group = λ p. find path_cmp p l.groups; home = λ pid. find nat_cmp pid l.home; groups = l.groups; homes = l.home; group_count = length l.groups }

-- a map answers as its entries do
pub reads_are : (s : State) → reads_of s ≡ reads_in (lists_of s)
reads_are s = λ i. record {
  group = λ p. get-entries s.groups p i;
  home = λ pid. get-entries s.home pid i;
  groups = entries s.groups;
  homes = entries s.home;
  group_count = len-entries s.groups i;
}

-- ---- the definitions of `Counts`, `Step`, `FileText` and `Machine`, of these answers in place of the state
abbrev pub home_by : Reads → ℕ → Path
home_by r pid = unwrap_or (r.home pid) []

abbrev pub attr_by : Reads → Path → Attr
attr_by r p = unwrap_or (r.group p) fresh

abbrev pub current_by : Reads → Path → ℕ
current_by r g = count_by (λ p. at_or_below p g) (map (λ e. e.1) r.homes)

abbrev pub descendants_by : Reads → Path → ℕ
descendants_by r g = count_by (λ p. strictly_below p g) (map (λ e. e.0) r.groups)

abbrev pub is_full_by : Reads → Path → Bool
is_full_by r a = not (is_root a) && asks (λ attr. exceeds (current_by r a + 1) attr.limits.pids) (r.group a)

abbrev pub limit_met_by : Reads → Path → Path → Option Refusal
limit_met_by r q a =
    refuse (asks (λ attr. reaches (descendants_by r a) attr.limits.descendants) (r.group a)) (Descendants a)
    (refuse (asks (λ attr. reaches (length q - length a) attr.limits.depth) (r.group a)) (Depth a) None)

abbrev pub refusal_by : ℕ → Reads → Command → Option Refusal
refusal_by slots r (MakeGroup p) =
    refuse (is_some (r.group p)) Exists
    (refuse (not (is_some (r.group (parent p)))) (NoGroup (parent p))
    (option_or (first_refusal (limit_met_by r (parent p)) (upward (parent p)))
    (refuse (ltb slots r.group_count) NoSlot None)))
refusal_by slots r (RemoveGroup p) =
    refuse (is_root p) RootFixed
    (refuse (not (is_some (r.group p))) (NoGroup p)
    (refuse (list_any (λ q. strictly_below q p) (map (λ e. e.0) r.groups)) HasChildren
    (refuse (list_any (λ q. same_path q p) (map (λ e. e.1) r.homes)) HasProcesses None)))
refusal_by slots r (Fork from child) =
    refuse (not (is_some (r.home from))) (NoProcess from)
    (refuse (is_some (r.home child)) (PidInUse child)
    (option_map OverPidsMax (first_path (is_full_by r) (upward (home_by r from)))))
refusal_by slots r (Exit pid) = refuse (not (is_some (r.home pid))) (NoProcess pid) None
refusal_by slots r (Move p pid) =
    refuse (not (is_some (r.group p))) (NoGroup p)
    (refuse (not (is_some (r.home pid))) (NoProcess pid) None)
refusal_by slots r (SetLimit p file value) =
    refuse (is_root p && is_pids_max file) NoFile
    (refuse (not (is_some (r.group p))) (NoGroup p) None)
refusal_by slots r (Kill g) =
    refuse (is_root g) NoFile
    (refuse (not (is_some (r.group g))) (NoGroup g) None)
refusal_by slots r (Show p file) =
    refuse (not (readable file)) NotReadable
    (refuse (not (is_some (r.group p))) (NoGroup p)
    (refuse (is_root p && not (on_root file)) NoFile None))
refusal_by slots r (Locate pid) = refuse (not (is_some (r.home pid))) (NoProcess pid) None
refusal_by slots r Undo = None

-- each refusal is by these answers alone
pub refusal_reads : (slots : ℕ) (s : State) (c : Command) → refusal slots s c ≡ refusal_by slots (reads_of s) c
refusal_reads slots s (MakeGroup p) = refl
refusal_reads slots s (RemoveGroup p) = refl
refusal_reads slots s (Fork from child) = refl
refusal_reads slots s (Exit pid) = refl
refusal_reads slots s (Move p pid) = refl
refusal_reads slots s (SetLimit p file value) = refl
refusal_reads slots s (Kill g) = refl
refusal_reads slots s (Show p file) = refl
refusal_reads slots s (Locate pid) = refl
refusal_reads slots s Undo = refl

abbrev pub file_by : Reads → Path → File → List ℕ
file_by r g Procs = flat_map (λ pid. line (decimal pid)) (map (λ e. e.0) (filter (λ e. same_path e.1 g) r.homes))
file_by r g Events = line (codes "populated " ++ flag_text (ltb 0 (current_by r g))) ++ line (codes "frozen 0")
file_by r g Stat = line (codes "nr_descendants " ++ decimal (descendants_by r g)) ++ line (codes "nr_dying_descendants 0")
file_by r g (LimitOf file) = line (limit_text (limit_at file (attr_by r g)))
file_by r g KillFile = []
file_by r g PidsCurrent = line (decimal (current_by r g))
file_by r g PidsPeak = line (decimal (attr_by r g).peak)
file_by r g PidsEvents = line (codes "max " ++ decimal (attr_by r g).total)
file_by r g PidsEventsLocal = line (codes "max " ++ decimal (attr_by r g).local)

-- and so is each text
file_reads : (s : State) (g : Path) (f : File) → file_text s g f ≡ file_by (reads_of s) g f
file_reads s g Procs = refl
file_reads s g Events = refl
file_reads s g Stat = refl
file_reads s g (LimitOf file) = refl
file_reads s g KillFile = refl
file_reads s g PidsCurrent = refl
file_reads s g PidsPeak = refl
file_reads s g PidsEvents = refl
file_reads s g PidsEventsLocal = refl

abbrev pub accepted_by : Reads → Command → Reply
accepted_by r (MakeGroup p) = Done
accepted_by r (RemoveGroup p) = Done
accepted_by r (Fork from child) = Done
accepted_by r (Exit pid) = Done
accepted_by r (Move p pid) = Done
accepted_by r (SetLimit p file value) = Done
accepted_by r (Kill g) = Done
accepted_by r (Show p file) = Text (file_by r p file)
accepted_by r (Locate pid) = Text (line (codes "0::" ++ path_text (home_by r pid)))
accepted_by r Undo = Done

pub accepted_reads : (s : State) (c : Command) → accepted s c ≡ accepted_by (reads_of s) c
accepted_reads s (MakeGroup p) = refl
accepted_reads s (RemoveGroup p) = refl
accepted_reads s (Fork from child) = refl
accepted_reads s (Exit pid) = refl
accepted_reads s (Move p pid) = refl
accepted_reads s (SetLimit p file value) = refl
accepted_reads s (Kill g) = refl
accepted_reads s (Show p file) = λ i. Text (file_reads s p file i)
accepted_reads s (Locate pid) = refl
accepted_reads s Undo = refl
