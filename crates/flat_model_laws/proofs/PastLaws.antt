-- What is said of the past of a machine, as what its undos give back.
use Rattle.std.proofs.Common.{◌≡◌, ℕ, zero, suc, ◌<◌, ◌≤◌, Bool, true, false, ◌||◌, ◌↔◌, List, [], ◌∷◌, length, take, refl, ltb, arith}
use Rattle.std.proofs.lemmas.Bool.Decides.{nat_tests}
use Rattle.std.specs.FinMap.{get}
use Rattle.flat_model.specs.Path.{Path}
use Rattle.flat_model.specs.State.{State}
use Rattle.flat_model.specs.Counts.{asks}
use Rattle.flat_model.specs.Command.{Command}
use Rattle.flat_model.specs.Machine.{Machine, tick, end_of, undos, TakesBackItsOwn}
use Rattle.flat_model.specs.WellFormed.{WellFormed, MachineWellFormed}
use Rattle.flat_model.specs.EventTotals.{HasEventsUpTo, EventsBounded}
use Rattle.flat_model_laws.proofs.NearestLaws.{asks_not}
use Rattle.flat_model.proofs.Limits.{asked_no}

-- a machine by its parts
abbrev of : State → List (Command × State) → Machine
of s past = record { state = s; past = past }

module _ (slots : ℕ) where
  kept_by_undos : (s : State) (past : List (Command × State)) → MachineWellFormed slots (of s past) → (k : ℕ) → WellFormed slots (end_of slots (of s past) (undos k)).state
  kept_by_undos s past w zero = w.0
  kept_by_undos s [] w (suc k) = kept_by_undos s [] w k
  kept_by_undos s (e ∷ past) w (suc k) = kept_by_undos e.1 past w.1 k

  kept_in_past : (s : State) (past : List (Command × State)) → ((k : ℕ) → WellFormed slots (end_of slots (of s past) (undos k)).state) → MachineWellFormed slots (of s past)
  kept_in_past s [] h = (h zero, tt)
  kept_in_past s (e ∷ past) h = (h zero, kept_in_past e.1 past (λ k. h (suc k)))

  pub well_formed_is : (m : Machine) → MachineWellFormed slots m ↔ ((k : ℕ) → WellFormed slots (end_of slots m (undos k)).state)
  well_formed_is m = (kept_by_undos m.state m.past, kept_in_past m.state m.past)

  abbrev IsBounded : Machine → Type 0
  IsBounded m = HasEventsUpTo (length m.past) m.state

  bounded_by_undos : (s : State) (past : List (Command × State)) → EventsBounded (of s past) → (k : ℕ) → IsBounded (end_of slots (of s past) (undos k))
  bounded_by_undos s past b zero = b.0
  bounded_by_undos s [] b (suc k) = bounded_by_undos s [] b k
  bounded_by_undos s (e ∷ past) b (suc k) = bounded_by_undos e.1 past b.1 k

  bounded_in_past : (s : State) (past : List (Command × State)) → ((k : ℕ) → IsBounded (end_of slots (of s past) (undos k))) → EventsBounded (of s past)
  bounded_in_past s [] h = (h zero, tt)
  bounded_in_past s (e ∷ past) h = (h zero, bounded_in_past e.1 past (λ k. h (suc k)))

  pub events_are : (m : Machine) → EventsBounded m ↔ ((k : ℕ) → IsBounded (end_of slots m (undos k)))
  events_are m = (bounded_by_undos m.state m.past, bounded_in_past m.state m.past)

  abbrev AllAbove : ℕ → Machine → List Command → Type 0
  AllAbove floor m cs = (k : ℕ) → 0 < k → k ≤ length cs → floor ≤ length (end_of slots m (take k cs)).past

  above_each : (floor : ℕ) (m : Machine) (cs : List Command) → TakesBackItsOwn slots floor m cs → AllAbove floor m cs
  above_each floor m cs t zero h l = absurd (omega arith)
  above_each floor m [] t (suc k) h l = absurd (omega arith)
  above_each floor m (c ∷ cs) t (suc zero) h l = t.0
  above_each floor m (c ∷ cs) t (suc (suc k)) h l = above_each floor (tick slots m c).0 cs t.1 (suc k) (omega arith) (omega arith)

  later : (floor : ℕ) (m : Machine) (c : Command) (cs : List Command) → AllAbove floor m (c ∷ cs) → AllAbove floor (tick slots m c).0 cs
  later floor m c cs h k a l = h (suc k) (omega arith) (omega arith)

  each_above : (floor : ℕ) (m : Machine) (cs : List Command) → AllAbove floor m cs → TakesBackItsOwn slots floor m cs
  each_above floor m [] h = tt
  each_above floor m (c ∷ cs) h = (h (suc zero) (omega arith) (omega arith), each_above floor (tick slots m c).0 cs (later floor m c cs h))

  pub own_is : (floor : ℕ) (m : Machine) (cs : List Command) → TakesBackItsOwn slots floor m cs ↔ AllAbove floor m cs
  own_is floor m cs = (above_each floor m cs, each_above floor m cs)

-- ---- the bound by the test of each group

over : (n a b : ℕ) → (ltb n a || ltb n b) ≡ false → (a ≤ n) × (b ≤ n)
over n a b e = by (ltb n a) (ltb n b) refl refl e
  where
    by : (x y : Bool) → ltb n a ≡ x → ltb n b ≡ y → (x || y) ≡ false → (a ≤ n) × (b ≤ n)
    by false false h g e = (grind (arith, nat_tests), grind (arith, nat_tests))
    by true y h g e = cc
    by false true h g e = cc

none_over : (n a b : ℕ) → a ≤ n → b ≤ n → (ltb n a || ltb n b) ≡ false
none_over n a b h g =
    let f : ltb n a ≡ false = grind (arith, nat_tests) in
    let k : ltb n b ≡ false = grind (arith, nat_tests) in λ i. f i || k i

pub totals_are : (n : ℕ) (s : State) → HasEventsUpTo n s ↔ ((p : Path) → asks (λ attr. ltb n attr.local || ltb n attr.total) (get s.groups p) ≡ false)
totals_are n s = (
  λ h p. asks_not (λ attr. ltb n attr.local || ltb n attr.total) (get s.groups p) (λ attr there. let two = h p attr there in none_over n attr.local attr.total two.0 two.1),
  λ h p attr there. over n attr.local attr.total (asked_no (λ attr. ltb n attr.local || ltb n attr.total) (get s.groups p) attr (h p) there),
)
