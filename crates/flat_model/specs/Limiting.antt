-- What the limits guarantee, in terms of counts.
use Rattle.std.specs.Prelude.{◌≡◌, ℕ, ◌+◌, ◌-◌, ◌<◌, ◌≤◌, true, false, Some, length}
use Rattle.std.specs.FinMap.{get}
use Rattle.flat_model.specs.Path.{Path, at_or_below, strictly_below, is_root}
use Rattle.flat_model.specs.State.{State, Attr, At}
use Rattle.flat_model.specs.Counts.{current, descendant_count, is_full}

-- no group at or above g, except the root, has more processes than its `pids.max`
abbrev pub IsWithinPids : State → Path → Type 0
IsWithinPids s g = (a : Path) (attr : Attr) (m : ℕ) → at_or_below g a ≡ true → is_root a ≡ false → get s.groups a ≡ Some attr → attr.limits.pids ≡ At m → current s a ≤ m

-- a is the nearest group at or above g whose `pids.max` one more process would exceed
pub record IsLimiting (s : State) (g a : Path) : Type 0 where
  pub above : at_or_below g a ≡ true
  pub not_root : is_root a ≡ false
  pub attr : Attr
  pub there : get s.groups a ≡ Some attr
  pub most : ℕ
  pub limit : attr.limits.pids ≡ At most
  pub past : most < current s a + 1
  pub nearest : (b : Path) → at_or_below g b ≡ true → strictly_below b a ≡ true → is_full s b ≡ false

-- a permits a new child of q: it has room for one more group below it, and permits one at that depth
pub record HasRoomFor (s : State) (q a : Path) : Type 0 where
  pub count : (attr : Attr) (m : ℕ) → get s.groups a ≡ Some attr → attr.limits.descendants ≡ At m → descendant_count s a < m
  pub deep : (attr : Attr) (m : ℕ) → get s.groups a ≡ Some attr → attr.limits.depth ≡ At m → length q - length a < m

-- so does each group at or above q
abbrev pub HasRoomBelow : State → Path → Type 0
HasRoomBelow s q = (a : Path) → at_or_below q a ≡ true → HasRoomFor s q a

-- a is the nearest group at or above q that doesn't permit a new child of q, and its limit on descendants is met
pub record MeetsDescendants (s : State) (q a : Path) : Type 0 where
  pub above : at_or_below q a ≡ true
  pub attr : Attr
  pub there : get s.groups a ≡ Some attr
  pub most : ℕ
  pub limit : attr.limits.descendants ≡ At most
  pub met : most ≤ descendant_count s a
  pub nearest : (b : Path) → at_or_below q b ≡ true → strictly_below b a ≡ true → HasRoomFor s q b

-- a is the nearest group at or above q that doesn't permit a new child of q; its limit on depth is met, and its limit on descendants is not
pub record MeetsDepth (s : State) (q a : Path) : Type 0 where
  pub above : at_or_below q a ≡ true
  pub attr : Attr
  pub there : get s.groups a ≡ Some attr
  pub most : ℕ
  pub limit : attr.limits.depth ≡ At most
  pub met : most ≤ length q - length a
  pub nearest : (b : Path) → at_or_below q b ≡ true → strictly_below b a ≡ true → HasRoomFor s q b
  pub room : (m : ℕ) → attr.limits.descendants ≡ At m → descendant_count s a < m
