-- When a step on a board is one event of the core that the board represents.
use Rattle.std.specs.Prelude.{◌≡◌, ℕ, ◌+◌, ◌*◌, ◌/◌, ◌%◌, ◌<◌, ◌⊎◌, List, [], ◌∷◌, ◌++◌, cond, nat_eq, map, length, slice_index, slice_set, true, None}
use Rattle.std.specs.List.{list_all}
use denote.Bor.{Bor}
use mathlib.Core.Option.{some}
use lib.ListN.{get_elem?}
use Rattle.atomic_table.specs.Table.{State as Table, keeps, stepped, Allows, Splits, Joins}
use Rattle.snzi_core.specs.declared.event.At.{At}
use Rattle.snzi_core.specs.declared.event.Event.{Event}
use Rattle.snzi_core.specs.declared.event.Event.TheVariants.{Load, FastAdd, Split, Join}
use Rattle.snzi_tokens.specs.declared.token.Token.{Token}
use Rattle.snzi_core.specs.declared.holding.Holding.{Holding}
use Rattle.snzi_core.specs.Caps.{helper_cap}
use Rattle.snzi_core.specs.Holding.{tokens_at, amount_at, out}
use Rattle.snzi_core.specs.CoreState.{CoreState as Core, hand_of}
use Rattle.snzi_core.specs.Lawful.{refusal, has_token, main_has}
use Rattle.snzi_core.specs.Effect.{after}
use Rattle.snzi_tree.specs.declared.board.View.{View}
use Rattle.snzi_tree.specs.View.{holding, BoardRule, Knows, Acts}

-- the core that a board of g slots of w nodes represents: its words, and what its hands hold
abbrev pub core_of : ℕ → ℕ → Table (Unit {0}) View → Core
core_of g w s = record { slots = g; nodes = w; words = s.words; hands = map holding s.views }

-- the event is lawful in the first core and leads to the second
abbrev pub Makes : Event → Core → Core → Type 0
Makes e k k' = (refusal k e ≡ None) × (after k e ≡ k')

-- the slot of the word j, and its number in the slot
abbrev pub slot_at : ℕ → ℕ → ℕ → ℕ
slot_at w l j = j / (w + l)

abbrev pub place_at : ℕ → ℕ → ℕ → ℕ
place_at w l j = j % (w + l)

-- the node whose word is j
abbrev pub node_at : ℕ → ℕ → ℕ → At
node_at w l j = record { slot = slot_at w l j; node = place_at w l j }

abbrev pub load_at : ℕ → ℕ → ℕ → ℕ → Event
load_at w l id j = Load id (slot_at w l j) (place_at w l j)

-- a compare-exchange from old: an add if it finds old, else a load
abbrev pub exchange_at : ℕ → ℕ → ℕ → ℕ → ℕ → ℕ → Event
exchange_at w l id j old found = cond (nat_eq found old) (FastAdd id (node_at w l j)) (load_at w l id j)

-- for every board: if the word j becomes f of the number that it had, and the hand id, which knew `me`, then knows what follows, then the
-- event for that number leads from the board's core before the step to the core after it
abbrev pub IsEventOf : ℕ → ℕ → ℕ → ℕ → Knows → ℕ → (ℕ → ℕ) → (ℕ → Knows → Type 0) → (ℕ → Event) → Type 0
IsEventOf g w l id me j f then event = (s : Table (Unit {0}) View) (m : Knows) → BoardRule (g * (w + l)) w l s → get_elem? s.views id ≡ some me.0 → then (slice_index s.words j) m
    → Makes (event (slice_index s.words j)) (core_of g w s) (core_of g w (stepped s j (f (slice_index s.words j)) id me.1 m.0 keeps))

-- the hands hold the same at every word
abbrev pub AlikeHands : Holding → Holding → Type 0
AlikeHands h h' = (h.role ≡ h'.role) × ((i : ℕ) → (tokens_at i h ≡ tokens_at i h') × (amount_at i h ≡ amount_at i h'))

-- the same words, and hands that hold the same at every word
abbrev pub Alike : Core → Core → Type 0
Alike k k' = (k.slots ≡ k'.slots) × (k.nodes ≡ k'.nodes) × (k.words ≡ k'.words) × (length k.hands ≡ length k'.hands) × ((id : ℕ) → AlikeHands (hand_of k id) (hand_of k' id))

-- main has this share at leaves of the core, and one more helper may be out
abbrev pub CanSplit : Core → List Token → Type 0
CanSplit k share = (list_all (has_token k) share ≡ true) × (main_has k share ≡ true) × (out (hand_of k 0).role < helper_cap)

-- The event is lawful: the core does not refuse it, or it is a split that main can do. (A core has numbers for 2^32 - 1 hands and then refuses a split; a board's hands have no numbers.)
abbrev pub IsLawful : Core → Event → Type 0
IsLawful k e = (refusal k e ≡ None) ⊎ ((share : Bor (List Token)) × (e ≡ Split share) × CanSplit k share.now)

-- the events, each lawful at its turn, lead from the first core to the second
abbrev pub Comes : Core → List Event → Core → Type 0
Comes k [] k' = k' ≡ k
Comes k (e ∷ es) k' = IsLawful k e × Comes (after k e) es k'

-- for every board: if the hand id is split, then main can do the split of the share, which leads from the board's core before to one like the core after
abbrev pub IsSplitOf : ℕ → ℕ → ℕ → ℕ → View → View → View → Bor (List Token) → Type 0
IsSplitOf g w l id v left right share = (s : Table (Unit {0}) View) → BoardRule (g * (w + l)) w l s → get_elem? s.views id ≡ some v
    → CanSplit (core_of g w s) share.now × Alike (after (core_of g w s) (Split share)) (core_of g w (record { words = s.words; homes = s.homes; views = slice_set s.views id left ++ right ∷ [] }))

-- for every board: if the hand id joins the hand `other`, then the join of that number leads from the board's core before to the core after
abbrev pub IsJoinOf : ℕ → ℕ → ℕ → ℕ → View → ℕ → View → View → View → Type 0
IsJoinOf g w l id v other u both spent = (s : Table (Unit {0}) View) → BoardRule (g * (w + l)) w l s → get_elem? s.views id ≡ some v → ¬ (other ≡ id)
    → get_elem? (slice_set s.views id both) other ≡ some u
    → Makes (Join other) (core_of g w s) (core_of g w (record { words = s.words; homes = s.homes; views = slice_set (slice_set s.views id both) other spent }))

-- whatever the hand knows after the step, it may still act
abbrev pub StaysActive : (ℕ → Knows → Type 0) → Type 0
StaysActive then = (r : ℕ) (m : Knows) → then r m → Acts m.0

-- the rule of a board allows the step, and the step is one event: for every board there is something that the hand may know after it, and
-- whatever the hand then knows, one event for the number found leads from the board's core before to the core after
abbrev pub IsStep : ℕ → ℕ → ℕ → ℕ → ℕ → Knows → ℕ → (ℕ → ℕ) → (ℕ → Knows → Type 0) → Type 0
IsStep g w l slots id me j f then = Allows (BoardRule (g * (w + l)) w l) slots id me j f then × (event : ℕ → Event) × IsEventOf g w l id me j f then event × StaysActive then

-- the step is allowed, and it is a load
abbrev pub IsLoad : ℕ → ℕ → ℕ → ℕ → ℕ → Knows → ℕ → (ℕ → Knows → Type 0) → Type 0
IsLoad g w l slots id me j then = Allows (BoardRule (g * (w + l)) w l) slots id me j (λ x. x) then × IsEventOf g w l id me j (λ x. x) then (λ x. load_at w l id j) × StaysActive then

-- a hand may be split so, and that is one split event
abbrev pub IsSplit : ℕ → ℕ → ℕ → ℕ → View → View → View → Type 0
IsSplit g w l id v left right = Splits (BoardRule (g * (w + l)) w l) id v left right × (share : Bor (List Token)) × IsSplitOf g w l id v left right share

-- a hand may join another so, and that is one join event
abbrev pub IsJoin : ℕ → ℕ → ℕ → ℕ → View → ℕ → View → View → View → Type 0
IsJoin g w l id v other u both spent = Joins (BoardRule (g * (w + l)) w l) id v other u both spent × IsJoinOf g w l id v other u both spent
