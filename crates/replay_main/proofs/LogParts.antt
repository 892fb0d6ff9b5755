-- What all workers make of their parts of a log, together.
use Rattle.std.proofs.Common.{◌≡◌, ◌∙◌, ℕ, zero, suc, ◌+◌, ◌-◌, ◌*◌, ◌%◌, ◌≤◌, ◌<◌, Bool, true, false, ltb, ltb-true, ltb-false, Option, Some, is_some, List, [], ◌∷◌, ◌++◌, map, take, drop, length, get_or, refl, sym, ap, subst, arith, Result, Ok}
use Rattle.std.specs.Prelude.{slice_get, slice_index}
use Rattle.std.specs.List.{All, flat_map, count_by, sum_by}
use Rattle.std.proofs.Math.Seq.{take-add}
use Rattle.std.proofs.lemmas.List.{map-append, drop-drop, drop_all, take_all, take-append-drop, take-map, length-append, length-map, length-take-le, get_or_append_left, get_or-append_right}
use Rattle.std.proofs.lemmas.List.Elements.{All-drop, All-take}
use Rattle.std.proofs.lemmas.Option.{get_or_from_slice_get, slice_get-get_or, slice_get_within}
use Rattle.std.proofs.lemmas.Grind.{flat_map-append}
use Rattle.std.specs.declared.alloc.AllocError.{AllocError}
use Rattle.flat_model.proofs.Sums.{count_by-append}
use Rattle.flat_model.specs.Command.{Command, Reply}
use Rattle.flat_model.specs.Log.{Entry}
use Rattle.flat_model.specs.Replies.{is_refused}
use Rattle.flat_model.specs.Trace as trace
use Rattle.undo_journal.specs.CommandMeaning.{command_of}
use Rattle.replay_main.specs.declared.reading.Script.{Script}
use Rattle.replay_main.specs.declared.texts.Part.{Part}
use Rattle.replay_main.specs.RangeResults.{IsRun}
use Rattle.replay_main.specs.Script.{AreLogged, IsCounted, IsPart, IsPartAt, all_commands, all_places, answers_from, entries_of, is_command, place_of, run_of}
use Rattle.replay_main.specs.WorkerTurns.{TakesTurns}
use Rattle.replay_main.proofs.RunJoins.{cut_run, runs_join, runs_sum}
use Rattle.replay_main.proofs.ScriptLaws.{answers-append, answers-front, one_piece}

abbrev pub commands_of : Script → List Command
commands_of s = map command_of s.commands.items

abbrev pub places_of : Script → List (Option trace.TextFault)
places_of s = map place_of s.places.items

-- ---- a prefix of the scripts

-- what `f` gives for all scripts up to the next one
next_of : {Z : Type 0} (f : Script → List Z) (scripts : List Script) (i : ℕ) → flat_map f (take (i + 1) scripts) ≡ flat_map f (take i scripts) ++ flat_map f (run_of 1 i scripts)
next_of f scripts i =
    let at : i * 1 ≡ i = omega arith in
    ap (λ t. flat_map f t) (take-add i 1 scripts ∙ ap (λ n. take i scripts ++ take 1 (drop n scripts)) (sym at)) ∙ flat_map-append f (take i scripts) (run_of 1 i scripts)

-- what it gives for all from one on
from_on : {Z : Type 0} (f : Script → List Z) (scripts : List Script) (i : ℕ) → flat_map f (drop i scripts) ≡ flat_map f (run_of 1 i scripts) ++ flat_map f (drop (i + 1) scripts)
from_on f scripts i =
    let at : i * 1 ≡ i = omega arith in
    let next : (i + 1) * 1 ≡ i + 1 = omega arith in
    ap (λ n. flat_map f (drop n scripts)) (sym at) ∙ ap (λ t. flat_map f t) (cut_run 1 i scripts)
    ∙ flat_map-append f (run_of 1 i scripts) (drop ((i + 1) * 1) scripts) ∙ ap (λ n. flat_map f (run_of 1 i scripts) ++ flat_map f (drop n scripts)) next

-- a prefix has no more than all
pub no_more : {Z : Type 0} (f : Script → List Z) (scripts : List Script) (i : ℕ) → length (flat_map f (take i scripts)) ≤ length (flat_map f scripts)
no_more f scripts i =
    let whole = ap (λ t. length (flat_map f t)) (take-append-drop i scripts) in
    let cut = ap length (flat_map-append f (take i scripts) (drop i scripts)) in
    let two = length-append (flat_map f (take i scripts)) (flat_map f (drop i scripts)) in
    omega (arith, whole, cut, two)

-- what a prefix and the next one have is no more than all
pub one_of : {Z : Type 0} (f : Script → List Z) (scripts : List Script) (i : ℕ) (s : Script) → i < length scripts → s ≡ get_or scripts i s
    → length (flat_map f (take i scripts)) + length (f s) ≤ length (flat_map f scripts)
one_of f scripts i s inside is =
    let own = ap length (one_piece f scripts i s inside (sym is)) in
    let next = ap length (next_of f scripts i) in
    let two = length-append (flat_map f (take i scripts)) (flat_map f (run_of 1 i scripts)) in
    let few = no_more f scripts (i + 1) in
    omega (arith, own, next, two, few)

-- the answers to the script at an index, whose start is known
pub part_at : (scripts : List Script) (at : ℕ) (log : List Entry) (part : Part) (script : Script) (lines turn : ℕ) (first : List Script) (rest : List Entry)
    → at < length scripts → script ≡ get_or scripts at script → first ≡ take at scripts → lines ≡ length (all_places first) → turn ≡ length (all_commands first) → rest ≡ drop turn log
    → IsPart (length scripts) lines turn script rest part → IsPartAt at scripts log part
part_at scripts at log part script lines turn first rest inside is front l n behind part_is =
    let line : lines ≡ length (all_places (take at scripts)) = l ∙ ap (λ t. length (all_places t)) front in
    let here : turn ≡ length (all_commands (take at scripts)) = n ∙ ap (λ t. length (all_commands t)) front in (
      script,
      slice_get-get_or scripts at script inside ∙ ap Some (sym is),
      subst (λ m. IsPart (length scripts) m (length (all_commands (take at scripts))) script (drop (length (all_commands (take at scripts))) log) part) line
          (subst (λ m. IsPart (length scripts) lines m script (drop m log) part) here (subst (λ es. IsPart (length scripts) lines turn script es part) behind part_is)),
    )

pub counted_all : (scripts : List Script) → All IsCounted scripts → count_by is_command (all_places scripts) ≡ length (all_commands scripts)
counted_all [] c = refl
counted_all (s ∷ ss) c =
    let here = c zero s (omega arith) in
    let rest = counted_all ss (λ k d lt. c (suc k) d (omega (arith, lt))) in
    let a = count_by-append is_command (places_of s) (all_places ss) in
    let b = length-append (commands_of s) (all_commands ss) in
    let l = length-map s.commands.items command_of in
    omega (arith, here, rest, a, b, l)

-- the script at an index
abbrev turn_at : List Script → ℕ → ℕ
turn_at scripts i = length (all_commands (take i scripts))

abbrev line_at : List Script → ℕ → ℕ
line_at scripts i = length (all_places (take i scripts))

mine : {Z : Type 0} (f : Script → List Z) (scripts : List Script) (i : ℕ) (s : Script) → slice_get scripts i ≡ Some s → f s ≡ flat_map f (run_of 1 i scripts)
mine f scripts i s is = one_piece f scripts i s (slice_get_within scripts i s is) (get_or_from_slice_get scripts i s s is)

next_turn : (scripts : List Script) (i : ℕ) → turn_at scripts (i + 1) ≡ turn_at scripts i + length (all_commands (run_of 1 i scripts))
next_turn scripts i = ap length (next_of commands_of scripts i) ∙ length-append (all_commands (take i scripts)) (all_commands (run_of 1 i scripts))

next_line : (scripts : List Script) (i : ℕ) → line_at scripts (i + 1) ≡ line_at scripts i + length (all_places (run_of 1 i scripts))
next_line scripts i = ap length (next_of places_of scripts i) ∙ length-append (all_places (take i scripts)) (all_places (run_of 1 i scripts))

map-drop : {X Y : Type 0} (f : X → Y) (n : ℕ) (xs : List X) → map f (drop n xs) ≡ drop n (map f xs)
map-drop f zero xs = refl
map-drop f (suc n) [] = refl
map-drop f (suc n) (x ∷ xs) = map-drop f n xs

abbrev replies_of : List Entry → List Reply
replies_of es = map (λ (e : Entry). e.reply) es

-- the replies of a script's entries
part_replies : (scripts : List Script) (i : ℕ) (s : Script) (log : List Entry) → slice_get scripts i ≡ Some s
    → replies_of (entries_of s (drop (turn_at scripts i) log)) ≡ take (length (all_commands (run_of 1 i scripts))) (drop (turn_at scripts i) (replies_of log))
part_replies scripts i s log is =
    let many : length s.commands.items ≡ length (all_commands (run_of 1 i scripts)) = sym (length-map s.commands.items command_of) ∙ ap length (mine commands_of scripts i s is) in
    sym (take-map (λ (e : Entry). e.reply) (length s.commands.items) (drop (turn_at scripts i) log))
    ∙ ap (λ n. take n (replies_of (drop (turn_at scripts i) log))) many
    ∙ ap (λ t. take (length (all_commands (run_of 1 i scripts))) t) (map-drop (λ (e : Entry). e.reply) (turn_at scripts i) log)

-- the scripts of one index are counted
counted_at : (scripts : List Script) → All IsCounted scripts → (i : ℕ) → All IsCounted (run_of 1 i scripts)
counted_at scripts c i = All-take IsCounted 1 (drop (i * 1) scripts) (All-drop IsCounted (i * 1) scripts c)

-- ---- the answers

abbrev rest_answers : List Script → List Reply → ℕ → List ℕ
rest_answers scripts rs i = answers_from (line_at scripts i + 1) (all_places (drop i scripts)) (drop (turn_at scripts i) rs)

abbrev part_answers : List Script → List Reply → ℕ → List ℕ
part_answers scripts rs i = answers_from (line_at scripts i + 1) (all_places (run_of 1 i scripts)) (drop (turn_at scripts i) rs)

answers_step : (scripts : List Script) (rs : List Reply) → All IsCounted scripts → (i : ℕ) → rest_answers scripts rs i ≡ part_answers scripts rs i ++ rest_answers scripts rs (i + 1)
answers_step scripts rs c i =
    let here = all_places (run_of 1 i scripts) in
    let left = all_places (drop (i + 1) scripts) in
    let counted = counted_all (run_of 1 i scripts) (counted_at scripts c i) in
    let line : line_at scripts i + 1 + length here ≡ line_at scripts (i + 1) + 1 = let n = next_line scripts i in omega (arith, n) in
    let turn : turn_at scripts i + count_by is_command here ≡ turn_at scripts (i + 1) = let n = next_turn scripts i in omega (arith, n, counted) in
    ap (λ t. answers_from (line_at scripts i + 1) t (drop (turn_at scripts i) rs)) (from_on places_of scripts i)
    ∙ answers-append (line_at scripts i + 1) here left (drop (turn_at scripts i) rs)
    ∙ ap (λ t. part_answers scripts rs i ++ t) (ap (λ n. answers_from n left (drop (count_by is_command here) (drop (turn_at scripts i) rs))) line
    ∙ ap (λ t. answers_from (line_at scripts (i + 1) + 1) left t) (drop-drop (count_by is_command here) (turn_at scripts i) rs ∙ ap (λ n. drop n rs) turn))

pub joined_answers : {post : ℕ → Result Part AllocError → Type 0} (scripts : List Script) (log : List Entry) (parts : List Part) → All IsCounted scripts
    → IsRun post 0 (length scripts) parts → ((i : ℕ) (p : Part) → i < length scripts → post i (Ok p) → IsPartAt i scripts log p)
    → flat_map (λ p. p.bytes.items) parts ≡ answers_from 1 (all_places scripts) (replies_of log)
joined_answers {post} scripts log parts c run each =
    let rs = replies_of log in
    let one : (i : ℕ) (p : Part) → i < length scripts → post i (Ok p) → p.bytes.items ≡ part_answers scripts rs i =
    λ i p lt h.
    let at = each i p lt h in
    let s = at.0 in
    let ps = all_places (run_of 1 i scripts) in
    let counted = counted_all (run_of 1 i scripts) (counted_at scripts c i) in
    at.2.bytes
    ∙ ap (λ t. answers_from (line_at scripts i + 1) t (replies_of (entries_of s (drop (turn_at scripts i) log)))) (mine places_of scripts i s at.1)
    ∙ ap (λ t. answers_from (line_at scripts i + 1) ps t) (part_replies scripts i s log at.1 ∙ ap (λ n. take n (drop (turn_at scripts i) rs)) (sym counted))
    ∙ answers-front (line_at scripts i + 1) ps (drop (turn_at scripts i) rs) in
    runs_join (λ p. p.bytes.items) (rest_answers scripts rs) (part_answers scripts rs) parts 0 (length scripts) run one (answers_step scripts rs c)
    (ap (λ t. answers_from (line_at scripts (length scripts) + 1) (all_places t) (drop (turn_at scripts (length scripts)) rs)) (drop_all (length scripts) scripts (omega arith)))

-- ---- the refusals

abbrev refused_in : List (Option trace.TextFault) → List Reply → ℕ
refused_in ps rs = count_by is_some ps + count_by is_refused rs

refused_step : (scripts : List Script) (rs : List Reply) (i : ℕ)
    → refused_in (all_places (drop i scripts)) (drop (turn_at scripts i) rs)
    ≡ refused_in (all_places (run_of 1 i scripts)) (take (length (all_commands (run_of 1 i scripts))) (drop (turn_at scripts i) rs))
    + refused_in (all_places (drop (i + 1) scripts)) (drop (turn_at scripts (i + 1)) rs)
refused_step scripts rs i =
    let n = length (all_commands (run_of 1 i scripts)) in
    let left = drop (turn_at scripts i) rs in
    let a = ap (λ t. count_by is_some t) (from_on places_of scripts i) in
    let b = count_by-append (λ (p : Option trace.TextFault). is_some p) (all_places (run_of 1 i scripts)) (all_places (drop (i + 1) scripts)) in
    let d = ap (λ t. count_by is_refused t) (take-append-drop n left) in
    let e = count_by-append is_refused (take n left) (drop n left) in
    let f = ap (λ t. count_by is_refused t) (drop-drop n (turn_at scripts i) rs ∙ ap (λ m. drop m rs) (sym (next_turn scripts i))) in
    omega (arith, a, b, d, e, f)

pub joined_refused : {post : ℕ → Result Part AllocError → Type 0} (scripts : List Script) (log : List Entry) (parts : List Part) → length log ≡ length (all_commands scripts)
    → IsRun post 0 (length scripts) parts → ((i : ℕ) (p : Part) → i < length scripts → post i (Ok p) → IsPartAt i scripts log p)
    → sum_by (λ p. p.refused) parts ≡ refused_in (all_places scripts) (replies_of log)
joined_refused {post} scripts log parts many run each =
    let rs = replies_of log in
    let k = length scripts in
    let one : (i : ℕ) (p : Part) → i < k → post i (Ok p)
    → p.refused ≡ refused_in (all_places (run_of 1 i scripts)) (take (length (all_commands (run_of 1 i scripts))) (drop (turn_at scripts i) rs)) =
    λ i p lt h.
    let at = each i p lt h in
    at.2.refused
    ∙ ap (λ t. refused_in t (replies_of (entries_of at.0 (drop (turn_at scripts i) log)))) (mine places_of scripts i at.0 at.1)
    ∙ ap (λ t. refused_in (all_places (run_of 1 i scripts)) t) (part_replies scripts i at.0 log at.1) in
    let none : drop k scripts ≡ [] = drop_all k scripts (omega arith) in
    let whole : turn_at scripts k ≡ length rs =
    ap (λ t. length (all_commands t)) (take_all k scripts (omega arith)) ∙ sym many ∙ sym (length-map log (λ (e : Entry). e.reply)) in
    let ended : drop (turn_at scripts k) rs ≡ [] = drop_all (turn_at scripts k) rs (omega (arith, whole)) in
    runs_sum (λ p. p.refused) (λ i. refused_in (all_places (drop i scripts)) (drop (turn_at scripts i) rs))
    (λ i. refused_in (all_places (run_of 1 i scripts)) (take (length (all_commands (run_of 1 i scripts))) (drop (turn_at scripts i) rs)))
    parts 0 k run one (refused_step scripts rs)
    (ap (λ t. refused_in (all_places t) (drop (turn_at scripts k) rs)) none ∙ ap (λ t. refused_in [] t) ended)

-- ---- the log

abbrev sessions_of : List Entry → List ℕ
sessions_of es = map (λ (e : Entry). e.session) es

turns_join : (workers turn : ℕ) (xs ys : List Entry) → turn ≡ length xs → TakesTurns workers 0 xs → TakesTurns workers turn ys → TakesTurns workers 0 (xs ++ ys)
turns_join workers turn xs ys here first next at inside =
    by (ltb at turn) refl
  where
    by : (b : Bool) → ltb at turn ≡ b → slice_index (sessions_of (xs ++ ys)) at ≡ (0 + at) % workers
    by true e =
        let l = ltb-true at turn e in
        let lt : at < length xs = omega (arith, l, here) in
        ap (λ t. slice_index t at) (map-append (λ (e : Entry). e.session) xs ys)
        ∙ get_or_append_left (sessions_of xs) (sessions_of ys) 0 at (let m = length-map xs (λ (e : Entry). e.session) in omega (arith, m, lt))
        ∙ first at lt
    by false e =
        let l = ltb-false at turn e in
        let two = length-append xs ys in
        let lt : at - turn < length ys = omega (arith, l, here, two, inside) in
        let on : turn + (at - turn) ≡ 0 + at = omega (arith, l) in
        ap (λ t. slice_index t at) (map-append (λ (e : Entry). e.session) xs ys)
        ∙ get_or-append_right (sessions_of xs) (sessions_of ys) turn at 0 (length-map xs (λ (e : Entry). e.session) ∙ sym here) l
        ∙ next (at - turn) lt ∙ ap (λ n. n % workers) on

logged_none : (workers : ℕ) (log : List Entry) → AreLogged workers 0 [] (take 0 log)
logged_none workers log = record {
  commands_are = refl;
  turns = λ at lt. absurd (omega (arith, lt));
}

logged_step : (workers : ℕ) (scripts : List Script) (log : List Entry) (i : ℕ) (s : Script) → length log ≡ length (all_commands scripts) → slice_get scripts i ≡ Some s
    → AreLogged workers 0 (all_commands (take i scripts)) (take (turn_at scripts i) log)
    → AreLogged workers (turn_at scripts i) (commands_of s) (entries_of s (drop (turn_at scripts i) log))
    → AreLogged workers 0 (all_commands (take (i + 1) scripts)) (take (turn_at scripts (i + 1)) log)
logged_step workers scripts log i s many is before here =
    let turn = turn_at scripts i in
    let n = length s.commands.items in
    let own = mine commands_of scripts i s is in
    let count = length-map s.commands.items command_of in
    let owned = ap length own in
    let next = next_turn scripts i in
    let at : turn_at scripts (i + 1) ≡ turn + n = omega (arith, next, owned, count) in
    let whole : take (turn_at scripts (i + 1)) log ≡ take turn log ++ entries_of s (drop turn log) = ap (λ m. take m log) at ∙ take-add turn n log in
    let commands : all_commands (take (i + 1) scripts) ≡ all_commands (take i scripts) ++ commands_of s =
    next_of commands_of scripts i ∙ ap (λ t. all_commands (take i scripts) ++ t) (sym own) in
    let few = no_more commands_of scripts i in
    let long : turn ≡ length (take turn log) = sym (length-take-le turn log (omega (arith, few, many))) in
    record {
      commands_are = ap (λ t. map (λ (e : Entry). e.command) t) whole ∙ map-append (λ (e : Entry). e.command) (take turn log) (entries_of s (drop turn log))
          ∙ ap (λ t. t ++ map (λ (e : Entry). e.command) (entries_of s (drop turn log))) before.commands_are
          ∙ ap (λ t. all_commands (take i scripts) ++ t) here.commands_are ∙ sym commands;
      turns = subst (λ es. TakesTurns workers 0 es) (sym whole) (turns_join workers turn (take turn log) (entries_of s (drop turn log)) long before.turns here.turns);
    }

head_of : {X : Type 0} (xs : List X) → 0 < length xs → X
head_of [] some = absurd (omega (arith, some))
head_of (x ∷ xs) some = x

logged_to : {post : ℕ → Result Part AllocError → Type 0} (scripts : List Script) (log : List Entry) (parts : List Part) → length log ≡ length (all_commands scripts)
    → IsRun post 0 (length scripts) parts → ((i : ℕ) (p : Part) → i < length scripts → post i (Ok p) → IsPartAt i scripts log p)
    → All (λ p. p.is_logged ≡ true) parts → (i : ℕ) → i ≤ length scripts
    → AreLogged (length scripts) 0 (all_commands (take i scripts)) (take (turn_at scripts i) log)
logged_to scripts log parts many run each all zero le = logged_none (length scripts) log
logged_to {post} scripts log parts many run each all (suc i) le =
    let len = run.len in
    let inside : i < length parts = omega (arith, len, le) in
    let d = head_of parts (omega (arith, inside)) in
    let p = get_or parts i d in
    let here : 0 + i ≡ i = omega arith in
    let at = each i p (omega (arith, le)) (subst (λ n. post n (Ok p)) here (run.each i d inside)) in
    let next : i + 1 ≡ suc i = omega arith in
    let before = logged_to scripts log parts many run each all i (omega (arith, le)) in
    subst (λ n. AreLogged (length scripts) 0 (all_commands (take n scripts)) (take (turn_at scripts n) log)) next
    (logged_step (length scripts) scripts log i at.0 many at.1 before (at.2.logged (all i d inside)))

pub joined_log : {post : ℕ → Result Part AllocError → Type 0} (scripts : List Script) (log : List Entry) (parts : List Part) → length log ≡ length (all_commands scripts)
    → IsRun post 0 (length scripts) parts → ((i : ℕ) (p : Part) → i < length scripts → post i (Ok p) → IsPartAt i scripts log p)
    → All (λ p. p.is_logged ≡ true) parts → AreLogged (length scripts) 0 (all_commands scripts) log
joined_log {post} scripts log parts many run each all =
    let k = length scripts in
    let scripts_are : take k scripts ≡ scripts = take_all k scripts (omega arith) in
    let turn : length log ≤ turn_at scripts k = (let e = ap (λ t. length (all_commands t)) scripts_are in omega (arith, e, many)) in
    subst (λ es. AreLogged k 0 (all_commands scripts) es) (take_all (turn_at scripts k) log turn)
    (subst (λ ss. AreLogged k 0 (all_commands ss) (take (turn_at scripts k) log)) scripts_are (logged_to scripts log parts many run each all k (omega arith)))
