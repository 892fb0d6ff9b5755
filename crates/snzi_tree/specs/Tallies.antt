-- The events of a board's hands: what each hand's seat counts, and the run of all of them.
use Rattle.std.specs.Prelude.{◌≡◌, ℕ, ◌+◌, ◌*◌, List, [], ◌∷◌, map, length}
use Rattle.atomic_table.specs.Table.{State as Table, Step, Me}
use Rattle.snzi_core.specs.declared.event.Event.{Event}
use Rattle.snzi_core.specs.declared.holding.Role.TheVariants.{Spent}
use Rattle.snzi_core.specs.CoreState.{CoreState as Core, start}
use Rattle.snzi_tree.specs.declared.board.View.{View}
use Rattle.snzi_tree.specs.declared.board.Tally.{Tally}
use Rattle.snzi_tree.specs.View.{first_view, spent_view, kept, given, joined, BoardRule, Knows}
use Rattle.snzi_tree.specs.BoardEvents.{core_of, Alike, Comes}

abbrev pub view_of : Tally → View
view_of t = t.view

-- a seat, and what it knows
abbrev pub Seated : Type 0
Seated = Me (Unit {0}) Tally

abbrev pub known : Seated → Knows
known m = (m.0.view, m.1)

-- the board without its counts
abbrev pub plain : Table (Unit {0}) Tally → Table (Unit {0}) View
plain s = record { words = s.words; homes = s.homes; views = map view_of s.views }

-- the events of a hand, and of those that it has joined
abbrev pub events_in : Tally → ℕ
events_in t = t.own + t.joined

abbrev pub all_events : List Tally → ℕ
all_events [] = 0
all_events (t ∷ ts) = events_in t + all_events ts

-- main, which has done no event
abbrev pub first_tally : Tally
first_tally = record { view = first_view; own = 0; joined = 0 }

-- main after a split, which is one event of main, and the helper, which has done no event
abbrev pub kept_tally : Tally → Tally
kept_tally t = record { view = kept t.view; own = t.own + 1; joined = t.joined }

abbrev pub given_tally : Tally → Tally
given_tally t = record { view = given t.view; own = 0; joined = 0 }

-- main after a join, which is one event of main, with the helper's events added
abbrev pub joined_tally : Tally → Tally → Tally
joined_tally t u = record { view = joined t.view u.view; own = t.own + 1; joined = t.joined + events_in u }

abbrev pub spent_tally : Tally
spent_tally = record { view = spent_view; own = 0; joined = 0 }

-- a spent hand counts no events
abbrev pub SpentCountNothing : List Tally → Type 0
SpentCountNothing [] = Unit {0}
SpentCountNothing (t ∷ ts) = (t.view.holding.role ≡ Spent → events_in t ≡ 0) × SpentCountNothing ts

-- the step says this, and it is one event of the hand
abbrev pub counts_one : (Step (Unit {0}) → Knows → ℕ → Knows → Type 0) → Step (Unit {0}) → Seated → ℕ → Seated → Type 0
counts_one then st m r m' = then st (known m) r (known m') × (m'.0.own ≡ m.0.own + 1) × (m'.0.joined ≡ m.0.joined)

-- the step says this, and it counts as no event of the hand
abbrev pub counts_none : (Step (Unit {0}) → Knows → ℕ → Knows → Type 0) → Step (Unit {0}) → Seated → ℕ → Seated → Type 0
counts_none then st m r m' = then st (known m) r (known m') × (m'.0.own ≡ m.0.own) × (m'.0.joined ≡ m.0.joined)

-- a list of events, each lawful at its turn, leads from a new core to one like the board's, and it has as many events as the hands count
abbrev pub HasRun : ℕ → ℕ → Table (Unit {0}) Tally → Type 0
HasRun g w s = (events : List Event) × (k : Core) × Comes (start g w) events k × Alike k (core_of g w (plain s)) × (length events ≡ all_events s.views)

-- the rule of a board, together with a run of the core that leads to the board
abbrev pub RunRule : ℕ → ℕ → ℕ → Table (Unit {0}) Tally → Type 0
RunRule g w l s = BoardRule (g * (w + l)) w l (plain s) × HasRun g w s × SpentCountNothing s.views
