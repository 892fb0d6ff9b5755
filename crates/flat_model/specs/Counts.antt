-- What is counted in a state, and which limits are met.
use Rattle.std.specs.Prelude.{◌≡◌, ℕ, ◌+◌, Bool, true, false, cond, ◌&&◌, not, List, [], ◌∷◌, ltb, leb, Option, Some, None, count_by, filter, map}
use Rattle.std.specs.FinMap.{get, keys, values, entries, contains_key}
use Rattle.flat_model.specs.Path.{Path, at_or_below, strictly_below, same_path, is_root, parent, upward}
use Rattle.flat_model.specs.State.{State, Attr, Limit, Unlimited, At}

abbrev pub is_group : State → Path → Bool
is_group s p = contains_key s.groups p

abbrev pub has_process : State → ℕ → Bool
has_process s pid = contains_key s.home pid

-- `pids.current`: the processes in g and below it
abbrev pub current : State → Path → ℕ
current s g = count_by (λ p. at_or_below p g) (values s.home)

-- `populated`: whether there is such a process
abbrev pub populated : State → Path → Bool
populated s g = ltb 0 (current s g)

-- some process is in g or below it
pub record IsInhabited (s : State) (g : Path) : Type 0 where
  pub pid : ℕ
  pub at : Path
  pub home : get s.home pid ≡ Some at
  pub below : at_or_below at g ≡ true

-- `nr_descendants`: the groups below g
abbrev pub descendant_count : State → Path → ℕ
descendant_count s g = count_by (λ p. strictly_below p g) (keys s.groups)

-- `cgroup.procs`: the processes of g itself, ascending
abbrev pub members : State → Path → List ℕ
members s g = map (λ e. e.0) (filter (λ e. same_path e.1 g) (entries s.home))

-- the children of g, in the order of their names
abbrev pub children : State → Path → List Path
children s g = filter (λ p. not (is_root p) && same_path (parent p) g) (keys s.groups)

-- n exceeds the limit
abbrev pub exceeds : ℕ → Limit → Bool
exceeds n Unlimited = false
exceeds n (At m) = ltb m n

-- n is at the limit or exceeds it
abbrev pub reaches : ℕ → Limit → Bool
reaches n Unlimited = false
reaches n (At m) = leb m n

-- the result of a test of the group's attributes; false if there is no such group
abbrev pub asks : (Attr → Bool) → Option Attr → Bool
asks test None = false
asks test (Some a) = test a

-- the first path that passes the test
abbrev pub first_path : (Path → Bool) → List Path → Option Path
first_path test [] = None
first_path test (p ∷ ps) = cond (test p) (Some p) (first_path test ps)

-- the group is not the root, and one more process would exceed its `pids.max`
abbrev pub is_full : State → Path → Bool
is_full s a = not (is_root a) && asks (λ attr. exceeds (current s a + 1) attr.limits.pids) (get s.groups a)

-- the group that blocks a fork of a process of g: the nearest full one, from g upward
abbrev pub blocked_fork : State → Path → Option Path
blocked_fork s g = first_path (is_full s) (upward g)
