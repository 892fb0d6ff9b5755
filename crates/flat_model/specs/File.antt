-- The interface files: their names, which groups have them, which can be read, and what can be written to them.
use Rattle.std.specs.Prelude.{ℕ, Bool, true, false, not, List, [], ◌∷◌, codes, find, Option, Some, None, is_some}
use Rattle.flat_model.specs.Path.{same_name}

-- the files that hold a limit
pub data LimitFile : Type 0 where
  PidsMax : LimitFile
  MaxDescendants : LimitFile
  MaxDepth : LimitFile
  deriving Discrete as LimitFile-discrete

pub data File : Type 0 where
  Procs : File
  Events : File
  Stat : File
  LimitOf : LimitFile → File
  KillFile : File
  PidsCurrent : File
  PidsPeak : File
  PidsEvents : File
  PidsEventsLocal : File
  deriving Discrete as File-discrete

abbrev pub file_name : File → List ℕ
file_name Procs = codes "cgroup.procs"
file_name Events = codes "cgroup.events"
file_name Stat = codes "cgroup.stat"
file_name (LimitOf MaxDescendants) = codes "cgroup.max.descendants"
file_name (LimitOf MaxDepth) = codes "cgroup.max.depth"
file_name KillFile = codes "cgroup.kill"
file_name (LimitOf PidsMax) = codes "pids.max"
file_name PidsCurrent = codes "pids.current"
file_name PidsPeak = codes "pids.peak"
file_name PidsEvents = codes "pids.events"
file_name PidsEventsLocal = codes "pids.events.local"

abbrev pub all_files : List File
all_files = Procs ∷ Events ∷ Stat ∷ LimitOf MaxDescendants ∷ LimitOf MaxDepth ∷ KillFile ∷ LimitOf PidsMax ∷ PidsCurrent ∷ PidsPeak ∷ PidsEvents ∷ PidsEventsLocal ∷ []

-- the file of that name
abbrev pub file_named : List ℕ → Option File
file_named name = find (λ f. same_name (file_name f) name) all_files

abbrev pub is_pids_max : LimitFile → Bool
is_pids_max PidsMax = true
is_pids_max MaxDescendants = false
is_pids_max MaxDepth = false

-- whether the root has the file
abbrev pub on_root : File → Bool
on_root Procs = true
on_root Events = false
on_root Stat = true
on_root (LimitOf file) = not (is_pids_max file)
on_root KillFile = false
on_root PidsCurrent = false
on_root PidsPeak = false
on_root PidsEvents = false
on_root PidsEventsLocal = false

abbrev pub readable : File → Bool
readable Procs = true
readable Events = true
readable Stat = true
readable (LimitOf file) = true
readable KillFile = false
readable PidsCurrent = true
readable PidsPeak = true
readable PidsEvents = true
readable PidsEventsLocal = true

-- the kinds of value that can be written: a pid, a limit, and the 1 of `cgroup.kill`
pub data ValueKind : Type 0 where
  PidValue : ValueKind
  LimitValue : LimitFile → ValueKind
  KillValue : ValueKind

-- the kind of value that can be written to a file, if any
abbrev pub value_kind : File → Option ValueKind
value_kind Procs = Some PidValue
value_kind Events = None
value_kind Stat = None
value_kind (LimitOf file) = Some (LimitValue file)
value_kind KillFile = Some KillValue
value_kind PidsCurrent = None
value_kind PidsPeak = None
value_kind PidsEvents = None
value_kind PidsEventsLocal = None

abbrev pub writable : File → Bool
writable file = is_some (value_kind file)
