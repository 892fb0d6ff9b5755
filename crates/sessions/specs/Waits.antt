-- The turns that sessions wait for: which have come, and which are still waited for.
use Rattle.std.specs.Prelude.{◌≡◌, ◌↔◌, ℕ, ◌<◌, ◌≤◌, List, Bool, false, Option, Some, None, IsTrue, slice_index_or}

-- the log is as long as the turn, or the desk is halted or closed
abbrev pub HasCome : Option ℕ → ℕ → Type 0
HasCome (Some len) turn = turn ≤ len
HasCome None turn = Unit {0}

-- a turn is waited for here, and it has come
abbrev pub IsDue : Option ℕ → Option ℕ → Type 0
IsDue reached (Some turn) = HasCome reached turn
IsDue reached None = ⊥

-- a turn that has come is removed, and any other stays
abbrev pub IsLeft : Option ℕ → Option ℕ → Option ℕ → Type 0
IsLeft reached before after = (IsDue reached before → after ≡ None) × ((IsDue reached before → ⊥) → after ≡ before)

-- a session that waits for this turn is woken once it has come: this turn or an earlier one is noted
abbrev pub IsWoken : ℕ → Option ℕ → Type 0
IsWoken turn (Some noted) = noted ≤ turn
IsWoken turn None = ⊥

-- the noted turn is still noted, or an earlier one
abbrev pub IsNoLater : Option ℕ → Option ℕ → Type 0
IsNoLater (Some turn) after = IsWoken turn after
IsNoLater None after = Unit {0}

-- no turn of these is earlier than this one; without one there is none
abbrev pub AreNoEarlier : Option ℕ → List (Option ℕ) → Type 0
AreNoEarlier first waits = (at : ℕ) → IsNoLater (slice_index_or waits at None) first

-- at each of the eight indices whether the turn there is due
abbrev pub AreDue : Option ℕ → List (Option ℕ) → List Bool → Type 0
AreDue reached before due = (at : ℕ) → at < 8 → IsTrue (slice_index_or due at false) ↔ IsDue reached (slice_index_or before at None)

abbrev pub AreLeft : Option ℕ → List (Option ℕ) → List (Option ℕ) → Type 0
AreLeft reached before after = (at : ℕ) → at < 8 → IsLeft reached (slice_index_or before at None) (slice_index_or after at None)
