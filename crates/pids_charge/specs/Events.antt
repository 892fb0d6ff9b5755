-- Forks that limits refuse: which group refuses, and which event totals count it.
use Rattle.std.specs.Prelude.{ℕ, ◌+◌, ◌-◌, ◌^◌, ◌<◌, ◌≡◌, ◌&&◌, Bool, true, false, cond, not, Option, Some, None, option_map, IsSome}
use Rattle.std.specs.FinMap as fin
use Rattle.std.specs.Ordering.{nat_cmp}
use Rattle.flat_model.specs.Path.{Path, is_root, same_path}
use Rattle.flat_model.specs.Mapped.{map_values}
use Rattle.flat_model.specs.State as flat
use Rattle.flat_model.specs.State.{State}
use Rattle.flat_model.specs.Counts.{exceeds}
use Rattle.flat_model.specs.Step.{counts_for}
use Rattle.group_tree.specs.Groups.{Groups}
use Rattle.group_tree.specs.Flat.{group_of, limit_of}
use Rattle.group_tree.specs.declared.attr.Attr.{Attr}
use Rattle.snzi_tokens.specs.Listed.{over_leaves}
use Rattle.pids_charge.specs.Content.{Content}

-- by the meter's content, one more process would exceed the group's `pids.max`
abbrev pub full_by : ℕ → Content → Option Attr → Bool
full_by leaves content None = false
full_by leaves content (Some attr) = exceeds (over_leaves leaves (content attr.slot) + 1) (limit_of attr.limits.pids)

-- a is not the root, and by the meter's content it is full
abbrev pub is_full_by : ℕ → Content → Groups → Path → Bool
is_full_by leaves content tree a = not (is_root a) && full_by leaves content (fin.get tree a)

-- the attributes of q, with g applied to each event total that counts forks refused by a
abbrev pub counted_by : (ℕ → ℕ) → Path → Path → Attr → Attr
counted_by g a q attr = record attr {
  local = cond (same_path q a) (g attr.local) attr.local;
  total = cond (counts_for a q) (g attr.total) attr.total;
}

-- each group has its totals changed so, and no group is added or removed
abbrev pub CountsRefusals : (ℕ → ℕ) → Groups → Groups → Path → Type 0
CountsRefusals g old new a = (q : Path) → fin.get new q ≡ option_map (counted_by g a q) (fin.get old q)

-- the flat state of these groups and homes
abbrev pub flat_of : Groups → fin.FinMap nat_cmp Path → State
flat_of tree home = record { groups = map_values group_of tree; home = home }

-- no event total is the greatest u64
abbrev pub HasRoomForEvents : State → Type 0
HasRoomForEvents s = (p : Path) (attr : flat.Attr) → fin.get s.groups p ≡ Some attr → (attr.local < 2 ^ 64 - 1) × (attr.total < 2 ^ 64 - 1)

-- a is a group; its event totals, and the totals of the groups above it that count its refusals, are positive
pub record HasEvents (s : State) (a : Path) : Type 0 where
  pub there : IsSome (fin.get s.groups a)
  pub local : (attr : flat.Attr) → fin.get s.groups a ≡ Some attr → 0 < attr.local
  pub total : (p : Path) (attr : flat.Attr) → fin.get s.groups p ≡ Some attr → counts_for a p ≡ true → 0 < attr.total
