-- Undoing: as many undos as a run left records give back its start.
use Rattle.std.proofs.Common.{◌≡◌, ℕ, suc, ◌-◌, ◌≤◌, true, false, cond, List, [], ◌∷◌, map, length, Option, Some, None, refl, sym, ap, ◌∙◌, leb, arith}
use Rattle.std.proofs.lemmas.Bool.Decides.{nat_tests}
use Rattle.flat_model.specs.State.{State}
use Rattle.flat_model.specs.Path.{Path}
use Rattle.flat_model.specs.Command.{Command, MakeGroup, RemoveGroup, Fork, Exit, Move, SetLimit, Kill, Show, Locate, Undo, Refusal, OverPidsMax, Reply, Undone, Refused, is_undo, changes, is_counted}
use Rattle.flat_model.specs.Step.{refusal, after, after_refusal}
use Rattle.flat_model.specs.Machine.{Machine, new_machine, recorded, accepted, outcome, undone, tick, replies, end_of, after_all, undos, TakesBackItsOwn}

-- the machine with what its past had at the length `floor`
abbrev back_to : ℕ → State → List (Command × State) → Machine
back_to floor s [] = record { state = s; past = [] }
back_to floor s (e ∷ past) = cond (leb (length (e ∷ past)) floor) (record { state = s; past = e ∷ past }) (back_to floor e.1 past)

abbrev machine_back_to : ℕ → Machine → Machine
machine_back_to floor m = back_to floor m.state m.past

above : (n floor : ℕ) → floor ≤ n → leb (suc n) floor ≡ false
above n floor h = grind (arith, nat_tests)

full : (n : ℕ) → leb n n ≡ true
full n = grind (arith, nat_tests)

-- the undos that are left after one, or none where the floor is reached
less_by : (n floor : ℕ) → leb (suc n) floor ≡ false → suc n - floor ≡ suc (n - floor)
less_by n floor h = let l : floor ≤ n = grind (arith, nat_tests) in omega arith

none_by : (n floor : ℕ) → leb n floor ≡ true → n - floor ≡ 0
none_by n floor h = let l : n ≤ floor = grind (arith, nat_tests) in omega arith

undos_reach : (slots floor : ℕ) (s : State) (past : List (Command × State)) → end_of slots (record { state = s; past = past }) (undos (length past - floor)) ≡ back_to floor s past
undos_reach slots floor s [] = let z : 0 - floor ≡ 0 = omega arith in ap (λ n. end_of slots (record { state = s; past = [] }) (undos n)) z
undos_reach slots floor s (e ∷ past) =
    elim (leb (length (e ∷ past)) floor) as (λ b. leb (length (e ∷ past)) floor ≡ b
    → end_of slots (record { state = s; past = e ∷ past }) (undos (length (e ∷ past) - floor))
    ≡ cond b (record { state = s; past = e ∷ past }) (back_to floor e.1 past)) [
      | true ↦ λ t. ap (λ n. end_of slots (record { state = s; past = e ∷ past }) (undos n)) (none_by (length (e ∷ past)) floor t)
      | false ↦ λ t. ap (λ n. end_of slots (record { state = s; past = e ∷ past }) (undos n)) (less_by (length past) floor t) ∙ undos_reach slots floor e.1 past
    ] refl

-- what stands below the floor is not touched by a record put on top, nor by an undo that stays above it
recorded_keeps : (floor : ℕ) (m : Machine) (c : Command) (s : State) → floor ≤ length m.past → machine_back_to floor (recorded m c s) ≡ machine_back_to floor m
recorded_keeps floor m c s h = ap (λ b. cond b (recorded m c s) (back_to floor m.state m.past)) (above (length m.past) floor h)

outcome_keeps : (floor : ℕ) (m : Machine) (c : Command) (o : Option Refusal) → floor ≤ length m.past → machine_back_to floor (outcome m c o).0 ≡ machine_back_to floor m
outcome_keeps floor m c None h =
    elim (changes c) as (λ b. machine_back_to floor (cond b (recorded m c (after m.state c)) m) ≡ machine_back_to floor m)
    [ true ↦ recorded_keeps floor m c _ h | false ↦ refl ]
outcome_keeps floor m c (Some r) h =
    elim (is_counted r) as (λ b. machine_back_to floor (cond b (recorded m c (after_refusal m.state r)) m) ≡ machine_back_to floor m)
    [ true ↦ recorded_keeps floor m c _ h | false ↦ refl ]

undone_keeps : (floor : ℕ) (s : State) (past : List (Command × State)) → floor ≤ length (undone s past).0.past → machine_back_to floor (undone s past).0 ≡ back_to floor s past
undone_keeps floor s [] h = refl
undone_keeps floor s (e ∷ past) h = sym (ap (λ b. cond b (record { state = s; past = e ∷ past }) (back_to floor e.1 past)) (above (length past) floor h))

tick_keeps : (slots floor : ℕ) (m : Machine) (c : Command) → floor ≤ length m.past → floor ≤ length (tick slots m c).0.past → machine_back_to floor (tick slots m c).0 ≡ machine_back_to floor m
tick_keeps slots floor m c h k =
    elim (is_undo c) as (λ b. floor ≤ length (cond b (undone m.state m.past) (outcome m c (refusal slots m.state c))).0.past
    → machine_back_to floor (cond b (undone m.state m.past) (outcome m c (refusal slots m.state c))).0 ≡ machine_back_to floor m) [
      | true ↦ λ l. undone_keeps floor m.state m.past l
      | false ↦ λ l. outcome_keeps floor m c (refusal slots m.state c) h
    ] k

run_keeps : (slots floor : ℕ) (m : Machine) (cs : List Command) → floor ≤ length m.past → TakesBackItsOwn slots floor m cs → machine_back_to floor (end_of slots m cs) ≡ machine_back_to floor m
run_keeps slots floor m [] h own = refl
run_keeps slots floor m (c ∷ cs) h own = run_keeps slots floor (tick slots m c).0 cs own.0 own.1 ∙ tick_keeps slots floor m c h own.0

itself : (s : State) (past : List (Command × State)) → back_to (length past) s past ≡ record { state = s; past = past }
itself s [] = refl
itself s (e ∷ past) = ap (λ b. cond b (record { state = s; past = e ∷ past }) (back_to (length (e ∷ past)) e.1 past)) (full (length (e ∷ past)))

-- a run, and as many undos as it left records
pub run_undone : (slots : ℕ) (m : Machine) (cs : List Command) → TakesBackItsOwn slots (length m.past) m cs
    → end_of slots (end_of slots m cs) (undos (length (end_of slots m cs).past - length m.past)) ≡ m
run_undone slots m cs own =
    undos_reach slots (length m.past) (end_of slots m cs).state (end_of slots m cs).past
    ∙ run_keeps slots (length m.past) m cs (omega arith) own
    ∙ itself m.state m.past

free : (slots : ℕ) (m : Machine) (cs : List Command) → TakesBackItsOwn slots 0 m cs
free slots m [] = tt
free slots m (c ∷ cs) = (omega arith, free slots (tick slots m c).0 cs)

-- undoing everything gives the start
pub all_undone : (slots : ℕ) (cs : List Command) → end_of slots (after_all slots cs) (undos (length (after_all slots cs).past)) ≡ new_machine
all_undone slots cs =
    let z : length (after_all slots cs).past ≡ length (after_all slots cs).past - 0 = omega arith in
    ap (λ n. end_of slots (after_all slots cs) (undos n)) z ∙ run_undone slots new_machine cs (free slots new_machine cs)

-- the undos answer the recorded commands, newest first
undos_answer : (slots : ℕ) (s : State) (past : List (Command × State)) → replies slots (record { state = s; past = past }) (undos (length past)) ≡ map (λ e. Undone e.0) past
undos_answer slots s [] = refl
undos_answer slots s (e ∷ past) = ap (λ (rs : List Reply). Undone e.0 ∷ rs) (undos_answer slots e.1 past)

pub undos_reply : (slots : ℕ) (m : Machine) → replies slots m (undos (length m.past)) ≡ map (λ e. Undone e.0) m.past
undos_reply slots m = undos_answer slots m.state m.past

-- ---- one command and its undo

-- an undo changes nothing of its own, and is not refused
changing : (c : Command) → changes c ≡ true → is_undo c ≡ false
changing (MakeGroup p) h = refl
changing (RemoveGroup p) h = refl
changing (Fork from child) h = refl
changing (Exit pid) h = refl
changing (Move p pid) h = refl
changing (SetLimit p file value) h = refl
changing (Kill g) h = refl
changing (Show p file) h = cc
changing (Locate pid) h = cc
changing Undo h = cc

refused : (slots : ℕ) (s : State) (c : Command) (r : Refusal) → refusal slots s c ≡ Some r → is_undo c ≡ false
refused slots s (MakeGroup p) r h = refl
refused slots s (RemoveGroup p) r h = refl
refused slots s (Fork from child) r h = refl
refused slots s (Exit pid) r h = refl
refused slots s (Move p pid) r h = refl
refused slots s (SetLimit p file value) r h = refl
refused slots s (Kill g) r h = refl
refused slots s (Show p file) r h = refl
refused slots s (Locate pid) r h = refl
refused slots s Undo r h = cc

-- a step of a command that is no undo
pub tick_is : (slots : ℕ) (m : Machine) (c : Command) (o : Option Refusal) → is_undo c ≡ false → refusal slots m.state c ≡ o → tick slots m c ≡ outcome m c o
tick_is slots m c o not_undo e = ap (λ b. cond b (undone m.state m.past) (outcome m c (refusal slots m.state c))) not_undo ∙ ap (outcome m c) e

pub accepted_is : (slots : ℕ) (m : Machine) (c : Command) → refusal slots m.state c ≡ None → changes c ≡ true → tick slots m c ≡ (recorded m c (after m.state c), accepted m.state c)
accepted_is slots m c e change = tick_is slots m c None (changing c change) e ∙ ap (λ b. (cond b (recorded m c (after m.state c)) m, accepted m.state c)) change

pub refused_is : (slots : ℕ) (m : Machine) (c : Command) (r : Refusal) → refusal slots m.state c ≡ Some r → tick slots m c ≡ (cond (is_counted r) (recorded m c (after_refusal m.state r)) m, Refused r)
refused_is slots m c r e = tick_is slots m c (Some r) (refused slots m.state c r e) e

-- a recorded command and its undo
pub accepted_undone : (slots : ℕ) (m : Machine) (c : Command) → refusal slots m.state c ≡ None → changes c ≡ true → tick slots (tick slots m c).0 Undo ≡ (m, Undone c)
accepted_undone slots m c e change = ap (λ (t : Machine × Reply). tick slots t.0 Undo) (accepted_is slots m c e change)

-- a fork refused by pids.max and its undo
pub counted_undone : (slots : ℕ) (m : Machine) (c : Command) (a : Path) → refusal slots m.state c ≡ Some (OverPidsMax a) → tick slots (tick slots m c).0 Undo ≡ (m, Undone c)
counted_undone slots m c a e = ap (λ (t : Machine × Reply). tick slots t.0 Undo) (refused_is slots m c (OverPidsMax a) e)
