-- The state: the groups with their attributes, and the home of each process.
use Rattle.std.specs.Prelude.{ℕ, []}
use Rattle.std.specs.Ordering.{nat_cmp}
use Rattle.std.specs.FinMap.{FinMap, empty, insert}
use Rattle.flat_model.specs.Path.{Path, path_cmp}

pub data Limit : Type 0 where
  -- `max`
  Unlimited : Limit
  At : ℕ → Limit
  deriving Discrete as Limit-discrete

-- the values of `pids.max`, `cgroup.max.descendants` and `cgroup.max.depth`
pub record Limits : Type 0 where
  pub pids : Limit
  pub descendants : Limit
  pub depth : Limit

pub record Attr : Type 0 where
  pub limits : Limits
  -- how many forks this group's own `pids.max` refused
  pub local : ℕ
  -- those, plus the forks that the `pids.max` of a group below it refused
  pub total : ℕ
  -- the most processes that were in the group and below it at once; always 0 for the root
  pub peak : ℕ

-- a process is a number; its home is the group that it belongs to
pub record State : Type 0 where
  pub groups : FinMap path_cmp Attr
  pub home : FinMap nat_cmp Path

abbrev pub no_limits : Limits
no_limits = record { pids = Unlimited; descendants = Unlimited; depth = Unlimited }

-- a new group
abbrev pub fresh : Attr
fresh = record { limits = no_limits; local = 0; total = 0; peak = 0 }

-- the root, with process 1 in it
abbrev pub start : State
start = record { groups = insert empty [] fresh; home = insert empty 1 [] }
