-- One command on a state: the first refusal that applies, in the order of the rules, or the state after the command.
use Rattle.std.specs.Prelude.{ℕ, ◌+◌, ◌-◌, max, Bool, false, cond, ◌&&◌, not, List, [], ◌∷◌, length, get_or, take, ltb, Option, Some, None, map, option_map, unwrap_or}
use Rattle.std.specs.Option.{option_or}
use Rattle.std.specs.List.{list_any}
use Rattle.std.specs.FinMap.{get, insert, remove, retain_keys, from_entries, len, entries, keys, values}
use Rattle.flat_model.specs.Refuse.{refuse}
use Rattle.flat_model.specs.Path.{Path, at_or_below, strictly_below, same_path, is_root, parent, upward}
use Rattle.flat_model.specs.State.{State, Attr, Limit, fresh}
use Rattle.flat_model.specs.Counts.{current, descendant_count, is_group, has_process, reaches, asks, blocked_fork}
use Rattle.flat_model.specs.File.{LimitFile, PidsMax, MaxDescendants, MaxDepth, is_pids_max, readable, on_root}
use Rattle.flat_model.specs.Command.{Command, MakeGroup, RemoveGroup, Fork, Exit, Move, SetLimit, Kill, Show, Locate, Undo}
use Rattle.flat_model.specs.Command.{Refusal, Exists, NoGroup, Descendants, Depth, NoSlot, RootFixed, HasChildren, HasProcesses, NoProcess, PidInUse, OverPidsMax, NoFile, NotReadable}

-- the home of a process; the root if there is no such process
abbrev pub home_of : State → ℕ → Path
home_of s pid = unwrap_or (get s.home pid) []

-- the attributes of a group; those of a new group if there is no such group
abbrev pub attr_of : State → Path → Attr
attr_of s p = unwrap_or (get s.groups p) fresh

-- ---- refusals

-- the limits of a that a new child of q meets: descendants first, then depth
abbrev pub limit_met : State → Path → Path → Option Refusal
limit_met s q a =
    refuse (asks (λ attr. reaches (descendant_count s a) attr.limits.descendants) (get s.groups a)) (Descendants a)
    (refuse (asks (λ attr. reaches (length q - length a) attr.limits.depth) (get s.groups a)) (Depth a) None)

-- the first refusal along the paths
abbrev pub first_refusal : (Path → Option Refusal) → List Path → Option Refusal
first_refusal test [] = None
first_refusal test (p ∷ ps) = option_or (test p) (first_refusal test ps)

-- the limit that blocks a new group at p: the first one met, from p's parent upward
abbrev pub blocked_make : State → Path → Option Refusal
blocked_make s p = first_refusal (limit_met s (parent p)) (upward (parent p))

-- the first refusal in the order of the rules, if there may be `slots` groups besides the root
abbrev pub refusal : ℕ → State → Command → Option Refusal
refusal slots s (MakeGroup p) =
    refuse (is_group s p) Exists
    (refuse (not (is_group s (parent p))) (NoGroup (parent p))
    (option_or (blocked_make s p)
    (refuse (ltb slots (len s.groups)) NoSlot None)))
refusal slots s (RemoveGroup p) =
    refuse (is_root p) RootFixed
    (refuse (not (is_group s p)) (NoGroup p)
    (refuse (list_any (λ q. strictly_below q p) (keys s.groups)) HasChildren
    (refuse (list_any (λ q. same_path q p) (values s.home)) HasProcesses None)))
refusal slots s (Fork from child) =
    refuse (not (has_process s from)) (NoProcess from)
    (refuse (has_process s child) (PidInUse child)
    (option_map OverPidsMax (blocked_fork s (home_of s from))))
refusal slots s (Exit pid) =
    refuse (not (has_process s pid)) (NoProcess pid) None
refusal slots s (Move p pid) =
    refuse (not (is_group s p)) (NoGroup p)
    (refuse (not (has_process s pid)) (NoProcess pid) None)
refusal slots s (SetLimit p file value) =
    refuse (is_root p && is_pids_max file) NoFile
    (refuse (not (is_group s p)) (NoGroup p) None)
refusal slots s (Kill g) =
    refuse (is_root g) NoFile
    (refuse (not (is_group s g)) (NoGroup g) None)
refusal slots s (Show p file) =
    refuse (not (readable file)) NotReadable
    (refuse (not (is_group s p)) (NoGroup p)
    (refuse (is_root p && not (on_root file)) NoFile None))
refusal slots s (Locate pid) =
    refuse (not (has_process s pid)) (NoProcess pid) None
refusal slots s Undo = None

-- ---- the state afterwards

abbrev pub with_limit : LimitFile → Limit → Attr → Attr
with_limit PidsMax value attr = record attr { limits = record attr.limits { pids = value } }
with_limit MaxDescendants value attr = record attr { limits = record attr.limits { descendants = value } }
with_limit MaxDepth value attr = record attr { limits = record attr.limits { depth = value } }

abbrev pub limit_at : LimitFile → Attr → Limit
limit_at PidsMax attr = attr.limits.pids
limit_at MaxDescendants attr = attr.limits.descendants
limit_at MaxDepth attr = attr.limits.depth

-- sets that limit of the group at p
abbrev pub set_limit : Path → LimitFile → Limit → State → State
set_limit p file value s = record s { groups = insert s.groups p (with_limit file value (attr_of s p)) }

abbrev pub is_within : Path → Option Path → Bool
is_within g None = false
is_within g (Some p) = at_or_below p g

-- the process is at or below g
abbrev pub lives_in : State → Path → ℕ → Bool
lives_in s g pid = is_within g (get s.home pid)

-- the attributes of each group, computed by f from its path and its old attributes
abbrev pub at_each : (Path → Attr → Attr) → State → State
at_each f s = record s { groups = from_entries (map (λ e. (e.0, f e.0 e.1)) (entries s.groups)) }

-- whether p counts the processes and refused forks of a: p is a or above it, but not the root
abbrev pub counts_for : Path → Path → Bool
counts_for a p = not (is_root p) && at_or_below a p

-- the attributes of p after a process entered a, which is already there in s: the peak is at least the count
abbrev pub raise_peak : State → Path → Path → Attr → Attr
raise_peak s a p attr = record attr { peak = cond (counts_for a p) (max attr.peak (current s p)) attr.peak }

-- the state with the peaks raised after a process entered a
abbrev pub raise_peaks : Path → State → State
raise_peaks a s = at_each (raise_peak s a) s

-- the peaks of the groups from p upward, without the root
abbrev pub peaks_upward : State → Path → List ℕ
peaks_upward s p = map (λ q. (attr_of s q).peak) (take (length p) (upward p))

-- the attributes of p with its peak from the list, which has the peaks of the groups from a upward
abbrev pub set_peak : Path → List ℕ → Path → Attr → Attr
set_peak a peaks p attr = record attr { peak = cond (counts_for a p) (get_or peaks (length a - length p) attr.peak) attr.peak }

-- sets these peaks along the groups from a upward, without the root
abbrev pub set_peaks : Path → List ℕ → State → State
set_peaks a peaks s = at_each (set_peak a peaks) s

-- the state after an accepted command
abbrev pub after : State → Command → State
after s (MakeGroup p) = record s { groups = insert s.groups p fresh }
after s (RemoveGroup p) = record s { groups = remove s.groups p }
after s (Fork from child) = raise_peaks (home_of s from) (record s { home = insert s.home child (home_of s from) })
after s (Exit pid) = record s { home = remove s.home pid }
after s (Move p pid) = raise_peaks p (record s { home = insert s.home pid p })
after s (SetLimit p file value) = set_limit p file value s
after s (Kill g) = record s { home = retain_keys s.home (λ pid. not (lives_in s g pid)) }
after s (Show p file) = s
after s (Locate pid) = s
after s Undo = s

-- the attributes of p after the group at a has refused one more fork
abbrev pub count_up : Path → Path → Attr → Attr
count_up a p attr = record attr {
  local = attr.local + cond (same_path p a) 1 0;
  total = attr.total + cond (counts_for a p) 1 0;
}

abbrev pub count_down : Path → Path → Attr → Attr
count_down a p attr = record attr {
  local = attr.local - cond (same_path p a) 1 0;
  total = attr.total - cond (counts_for a p) 1 0;
}

-- the state after a refusal: a fork that a limit refused is counted; no other refusal changes anything
abbrev pub after_refusal : State → Refusal → State
after_refusal s (OverPidsMax a) = at_each (count_up a) s
after_refusal s Exists = s
after_refusal s (NoGroup p) = s
after_refusal s (Descendants p) = s
after_refusal s (Depth p) = s
after_refusal s NoSlot = s
after_refusal s RootFixed = s
after_refusal s HasChildren = s
after_refusal s HasProcesses = s
after_refusal s (NoProcess p) = s
after_refusal s (PidInUse p) = s
after_refusal s NoFile = s
after_refusal s NotReadable = s
