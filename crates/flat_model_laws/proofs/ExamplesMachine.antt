-- The machine over lists. It answers each trace as the machine does, and on a written trace it computes.
use Rattle.std.proofs.Common.{◌≡◌, ℕ, Bool, true, false, cond, List, [], ◌∷◌, map, refl, ap, ◌∙◌, Option, Some, None}
use Rattle.std.specs.Prelude.{◌+◌, count_by}
use Rattle.flat_model.specs.State.{State}
use Rattle.flat_model.specs.Command.{Command, Refusal, Reply, Undone, Refused, NothingToUndo, is_undo, changes, is_counted}
use Rattle.flat_model.specs.Step.{refusal, after, after_refusal}
use Rattle.flat_model.specs.Machine.{Machine, new_machine, recorded, outcome, undone, tick, replies}
use Rattle.flat_model.specs.Trace.{Line, read_trace}
use Rattle.flat_model.specs.Replies.{commands_in, out, answers, line_replies, is_fault, is_refused, refused_count}
use Rattle.flat_model_laws.proofs.ExamplesReads.{Lists, lists_of, reads_in, reads_are, refusal_by, refusal_reads, accepted_by, accepted_reads}
use Rattle.flat_model_laws.proofs.ExamplesLists.{leaves, after_leaves, refusal_leaves, after_refusal_leaves, start_lists, start_leaves}

-- the machine of `Machine`, with lists for its states
pub record ListMachine : Type 0 where
  pub state : Lists
  pub past : List (Command × Lists)

abbrev past_lists : List (Command × State) → List (Command × Lists)
past_lists past = map (λ e. (e.0, lists_of e.1)) past

abbrev machine_lists : Machine → ListMachine
machine_lists m = record { state = lists_of m.state; past = past_lists m.past }

abbrev step_lists : Machine × Reply → ListMachine × Reply
step_lists t = (machine_lists t.0, t.1)

abbrev pub list_recorded : ListMachine → Command → Lists → ListMachine
list_recorded m c l = record { state = l; past = (c, m.state) ∷ m.past }

abbrev pub list_outcome : ListMachine → Command → Option Refusal → ListMachine × Reply
list_outcome m c None = (cond (changes c) (list_recorded m c (leaves m.state c)) m, accepted_by (reads_in m.state) c)
list_outcome m c (Some r) = (cond (is_counted r) (list_recorded m c (refusal_leaves m.state r)) m, Refused r)

abbrev pub list_undone : Lists → List (Command × Lists) → ListMachine × Reply
list_undone l [] = (record { state = l; past = [] }, NothingToUndo)
list_undone l (e ∷ past) = (record { state = e.1; past = past }, Undone e.0)

abbrev pub list_tick : ℕ → ListMachine → Command → ListMachine × Reply
list_tick slots m c = cond (is_undo c) (list_undone m.state m.past) (list_outcome m c (refusal_by slots (reads_in m.state) c))

abbrev pub and_so_on : (ListMachine → List Reply) → ListMachine × Reply → List Reply
and_so_on rest t = t.1 ∷ rest t.0

abbrev pub list_replies : ℕ → List Command → ListMachine → List Reply
list_replies slots [] m = []
list_replies slots (c ∷ cs) m = and_so_on (list_replies slots cs) (list_tick slots m c)

undone_lists : (s : State) (past : List (Command × State)) → step_lists (undone s past) ≡ list_undone (lists_of s) (past_lists past)
undone_lists s [] = refl
undone_lists s (e ∷ past) = refl

recorded_lists : (m : Machine) (c : Command) (s : State) (l : Lists) (b : Bool) → lists_of s ≡ l
    → machine_lists (cond b (recorded m c s) m) ≡ cond b (list_recorded (machine_lists m) c l) (machine_lists m)
recorded_lists m c s l true e = λ i. list_recorded (machine_lists m) c (e i)
recorded_lists m c s l false e = refl

outcome_lists : (m : Machine) (c : Command) (o : Option Refusal) → step_lists (outcome m c o) ≡ list_outcome (machine_lists m) c o
outcome_lists m c None = λ i. (
  recorded_lists m c (after m.state c) (leaves (lists_of m.state) c) (changes c) (after_leaves m.state c) i,
  (accepted_reads m.state c ∙ ap (λ r. accepted_by r c) (reads_are m.state)) i,
)
outcome_lists m c (Some r) = λ i. (
  recorded_lists m c (after_refusal m.state r) (refusal_leaves (lists_of m.state) r) (is_counted r) (after_refusal_leaves m.state r) i,
  Refused r,
)

either_lists : (b : Bool) (t u : Machine × Reply) → step_lists (cond b t u) ≡ cond b (step_lists t) (step_lists u)
either_lists true t u = refl
either_lists false t u = refl

-- one step of the machine, its state seen as lists
tick_lists : (slots : ℕ) (m : Machine) (c : Command) → step_lists (tick slots m c) ≡ list_tick slots (machine_lists m) c
tick_lists slots m c =
    either_lists (is_undo c) (undone m.state m.past) (outcome m c (refusal slots m.state c))
    ∙ (λ i. cond (is_undo c) (undone_lists m.state m.past i) (outcome_lists m c (refusal slots m.state c) i))
    ∙ ap (λ (o : Option Refusal). cond (is_undo c) (list_undone (lists_of m.state) (past_lists m.past)) (list_outcome (machine_lists m) c o))
    (refusal_reads slots m.state c ∙ ap (λ r. refusal_by slots r c) (reads_are m.state))

replies_lists : (slots : ℕ) (cs : List Command) (m : Machine) → replies slots m cs ≡ list_replies slots cs (machine_lists m)
replies_lists slots [] m = refl
replies_lists slots (c ∷ cs) m =
    ap (λ (rs : List Reply). (tick slots m c).1 ∷ rs) (replies_lists slots cs (tick slots m c).0)
    ∙ ap (and_so_on (list_replies slots cs)) (tick_lists slots m c)

abbrev pub first_lists : ListMachine
first_lists = record { state = start_lists; past = [] }

new_lists : machine_lists new_machine ≡ first_lists
new_lists = λ i. record { state = start_leaves i; past = [] }

abbrev pub list_answers_to : ℕ → List Line → List ℕ
list_answers_to slots lines = out 1 lines (list_replies slots (commands_in lines) first_lists)

abbrev pub list_answers : ℕ → List ℕ → List ℕ
list_answers slots bytes = list_answers_to slots (read_trace bytes)

abbrev pub list_refused : ℕ → List Line → ℕ
list_refused slots lines = count_by is_fault lines + count_by is_refused (list_replies slots (commands_in lines) first_lists)

-- the two machines answer alike
pub line_replies_by_lists : (slots : ℕ) (lines : List Line) → line_replies slots lines ≡ list_replies slots (commands_in lines) first_lists
line_replies_by_lists slots lines =
    let cs = commands_in lines in
    replies_lists slots cs new_machine ∙ ap (list_replies slots cs) new_lists

pub answers_by_lists : (slots : ℕ) (bytes : List ℕ) → answers slots bytes ≡ list_answers slots bytes
answers_by_lists slots bytes = ap (out 1 (read_trace bytes)) (line_replies_by_lists slots (read_trace bytes))

pub refused_by_lists : (slots : ℕ) (lines : List Line) → refused_count slots lines ≡ list_refused slots lines
refused_by_lists slots lines = ap (λ (rs : List Reply). count_by is_fault lines + count_by is_refused rs) (line_replies_by_lists slots lines)

pub replies_by_lists : (slots : ℕ) (cs : List Command) → replies slots new_machine cs ≡ list_replies slots cs first_lists
replies_by_lists slots cs = replies_lists slots cs new_machine ∙ ap (list_replies slots cs) new_lists
