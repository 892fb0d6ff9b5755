-- A machine whose past is emptied behind each line: it is that of the lines without undos, with its past emptied.
use Rattle.std.proofs.Common.{◌≡◌, ◌∙◌, ◌+◌, Bool, true, false, cond, not, List, [], ◌∷◌, ◌++◌, append-nil, filter, Option, Some, None, refl, sym, ap, subst, zero-add}
use Rattle.std.specs.List.{All, count_by}
use Rattle.std.proofs.lemmas.List.Elements.{All-cons, All-head, All-nil, All-tail}
use Rattle.flat_model.specs.Command.{Command, NothingToUndo, Refused, Refusal, Reply, changes, is_counted, is_undo}
use Rattle.flat_model.specs.Machine.{Machine, accepted, end_of, new_machine, outcome, recorded, tick, undone}
use Rattle.flat_model.specs.Replies.{command_count, commands_in, is_fault, is_refused, reply_bytes}
use Rattle.flat_model.specs.State.{State}
use Rattle.flat_model.specs.Step.{after, after_refusal, refusal}
use Rattle.flat_model.specs.Trace.{Line, Skip, Run, Fault}
use Rattle.undo_journal.specs.Beginning.{forgotten}
use Rattle.sessions.specs.SessionMeaning.{slots}
use Rattle.trace_talk.specs.Points.{Point, answers_on, point_after, start_point, without_past}
use Rattle.trace_talk.proofs.PointCuts.{answers_on_cut}
use Rattle.shell_main.specs.Forgetful.{forgetful_after, forgetful_answers}
use Rattle.shell_main.proofs.ForgetfulCuts.{commands_by, forgetful_answers_cut}

abbrev pub is_kept : Command → Bool
is_kept c = not (is_undo c)

-- ---- one command

-- a past changes neither the state behind a command that is no undo, nor the reply to it
record Alike (a b : Machine × Reply) : Type 0 where
  machine : forgotten a.0 ≡ forgotten b.0
  reply : a.1 ≡ b.1

recorded_alike : (b : Bool) (m : Machine) (c : Command) (s : State) (r : Reply) → Alike (cond b (recorded m c s) m, r) (cond b (recorded (forgotten m) c s) (forgotten m), r)
recorded_alike true m c s r = record { machine = refl; reply = refl }
recorded_alike false m c s r = record { machine = refl; reply = refl }

outcome_alike : (m : Machine) (c : Command) (r : Option Refusal) → Alike (outcome m c r) (outcome (forgotten m) c r)
outcome_alike m c None = recorded_alike (changes c) m c (after m.state c) (accepted m.state c)
outcome_alike m c (Some r) = recorded_alike (is_counted r) m c (after_refusal m.state r) (Refused r)

tick_alike : (m : Machine) (c : Command) → is_undo c ≡ false → Alike (tick slots m c) (tick slots (forgotten m) c)
tick_alike m c e =
    let P : Bool → Type 0 = λ b. Alike (cond b (undone m.state m.past) (outcome m c (refusal slots m.state c))) (cond b (undone m.state []) (outcome (forgotten m) c (refusal slots m.state c))) in
    subst P (sym e) (outcome_alike m c (refusal slots m.state c))

-- with an empty past an undo changes nothing
nothing_undone : (m : Machine) (c : Command) → is_undo c ≡ true → tick slots (forgotten m) c ≡ (forgotten m, NothingToUndo)
nothing_undone m c e = ap (λ b. cond b (undone m.state []) (outcome (forgotten m) c (refusal slots m.state c))) e

-- ---- the machine behind some lines

-- behind one more command: an undo changes nothing, and any other command does what it does without a past
by_undo : (b : Bool) (m : Machine) (q : Point) (c : Command) (cs : List Command) (end : Point) → is_undo c ≡ b → q.machine ≡ forgotten m
    → ((k : Machine) → forgotten (tick slots q.machine c).0 ≡ forgotten k → end.machine ≡ forgotten (end_of slots k cs)) → end.machine ≡ forgotten (end_of slots m (cond (not b) (c ∷ cs) cs))
by_undo true m q c cs end u e next = next m (ap (λ n. forgotten (tick slots n c).0) e ∙ ap (λ (x : Machine × Reply). forgotten x.0) (nothing_undone m c u))
by_undo false m q c cs end u e next = next (tick slots m c).0 (ap (λ n. forgotten (tick slots n c).0) e ∙ sym (tick_alike m c u).machine)

pub dropped : (m : Machine) (q : Point) (lines : List Line) → q.machine ≡ forgotten m → (forgetful_after q lines).machine ≡ forgotten (end_of slots m (filter is_kept (commands_in lines)))
dropped m q [] e = e
dropped m q (Skip ∷ lines) e = dropped m (without_past (point_after q (Skip ∷ []))) lines (ap forgotten e)
dropped m q (Fault f ∷ lines) e = dropped m (without_past (point_after q (Fault f ∷ []))) lines (ap forgotten e)
dropped m q (Run c ∷ lines) e =
    let next = without_past (point_after q (Run c ∷ [])) in
    by_undo (is_undo c) m q c (filter is_kept (commands_in lines)) (forgetful_after next lines) refl e (λ k d. dropped k next lines d)

-- ---- the answer to one command behind them

one_answer : (lines : List Line) (c : Command) (r : Reply) → (tick slots (forgetful_after start_point lines).machine c).1 ≡ r
    → forgetful_answers start_point (lines ++ Run c ∷ []) ≡ forgetful_answers start_point lines ++ reply_bytes (command_count lines + 1) r
one_answer lines c r e =
    let front = forgetful_answers start_point lines in
    let last = forgetful_after start_point lines in
    let number : last.commands ≡ command_count lines = commands_by false start_point lines ∙ zero-add (command_count lines) in
    forgetful_answers_cut start_point lines (Run c ∷ [])
    ∙ ap (λ x. front ++ x) (append-nil (reply_bytes (last.commands + 1) (tick slots last.machine c).1 ++ []) ∙ append-nil (reply_bytes (last.commands + 1) (tick slots last.machine c).1))
    ∙ ap (λ x. front ++ reply_bytes (last.commands + 1) x) e
    ∙ ap (λ n. front ++ reply_bytes (n + 1) r) number

pub undo_answer : (lines : List Line) (c : Command) → is_undo c ≡ true
    → forgetful_answers start_point (lines ++ Run c ∷ []) ≡ forgetful_answers start_point lines ++ reply_bytes (command_count lines + 1) NothingToUndo
undo_answer lines c u =
    let m = end_of slots new_machine (filter is_kept (commands_in lines)) in
    one_answer lines c NothingToUndo (ap (λ n. (tick slots n c).1) (dropped new_machine start_point lines refl) ∙ ap (λ (x : Machine × Reply). x.1) (nothing_undone m c u))

pub other_answer : (lines : List Line) (c : Command) → is_undo c ≡ false
    → forgetful_answers start_point (lines ++ Run c ∷ [])
    ≡ forgetful_answers start_point lines ++ reply_bytes (command_count lines + 1) (tick slots (end_of slots new_machine (filter is_kept (commands_in lines))) c).1
other_answer lines c u =
    let m = end_of slots new_machine (filter is_kept (commands_in lines)) in
    one_answer lines c (tick slots m c).1 (ap (λ n. (tick slots n c).1) (dropped new_machine start_point lines refl) ∙ sym (tick_alike m c u).reply)

-- ---- lines without undos

-- a past changes neither the answer to such a line, nor the state behind it
record LineAlike (p : Point) (line : Line) : Type 0 where
  answer : answers_on (without_past p) (line ∷ []) ≡ answers_on p (line ∷ [])
  point : without_past (point_after (without_past p) (line ∷ [])) ≡ without_past (point_after p (line ∷ []))

line_alike : (p : Point) (line : Line) → All (λ c. is_undo c ≡ false) (commands_in (line ∷ [])) → LineAlike p line
line_alike p Skip a = record { answer = refl; point = refl }
line_alike p (Fault f) a = record { answer = refl; point = refl }
line_alike p (Run c) a =
    let same = tick_alike p.machine c (All-head (λ c. is_undo c ≡ false) c [] a) in
    record {
      answer = ap (λ r. reply_bytes (p.commands + 1) r ++ []) (sym same.reply);
      point = λ i. record {
        machine = sym same.machine i;
        commands = p.commands + command_count (Run c ∷ []);
        refused = p.refused + (count_by is_fault (Run c ∷ []) + count_by is_refused (sym same.reply i ∷ []));
      };
    }

first_alone : (line : Line) (lines : List Line) → All (λ c. is_undo c ≡ false) (commands_in (line ∷ lines))
    → All (λ c. is_undo c ≡ false) (commands_in (line ∷ [])) × All (λ c. is_undo c ≡ false) (commands_in lines)
first_alone Skip lines a = (All-nil (λ c. is_undo c ≡ false), a)
first_alone (Fault f) lines a = (All-nil (λ c. is_undo c ≡ false), a)
first_alone (Run c) lines a =
    let P : Command → Type 0 = λ c. is_undo c ≡ false in
    (All-cons P c [] (All-head P c (commands_in lines) a) (All-nil P), All-tail P c (commands_in lines) a)

pub no_difference : (p : Point) (lines : List Line) → All (λ c. is_undo c ≡ false) (commands_in lines) → forgetful_answers (without_past p) lines ≡ answers_on p lines
no_difference p [] a = refl
no_difference p (line ∷ lines) a =
    let parts = first_alone line lines a in
    let one = line_alike p line parts.0 in
    ap (λ x. x ++ forgetful_answers (without_past (point_after (without_past p) (line ∷ []))) lines) one.answer
    ∙ ap (λ q. answers_on p (line ∷ []) ++ forgetful_answers q lines) one.point
    ∙ ap (λ x. answers_on p (line ∷ []) ++ x) (no_difference (point_after p (line ∷ [])) lines parts.1)
    ∙ sym (answers_on_cut p (line ∷ []) lines)
