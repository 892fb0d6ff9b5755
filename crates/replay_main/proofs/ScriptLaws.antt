-- Scripts of pieces, and the answers on the lines that have a number.
use Rattle.std.proofs.Common.{◌≡◌, ◌∙◌, ℕ, zero, suc, ◌+◌, ◌*◌, ◌≤◌, ◌<◌, Option, Some, None, is_some, List, [], ◌∷◌, ◌++◌, map, take, drop, length, get_or, append-nil, refl, sym, ap, subst, arith, Result, Ok}
use Rattle.std.specs.List.{flat_map, count_by}
use Rattle.std.proofs.lemmas.List.{map-append, drop_all, drop_more, length-map, append_assoc, take_all}
use Rattle.std.proofs.lemmas.Grind.{flat_map-append}
use Rattle.std.specs.declared.alloc.AllocError.{AllocError}
use Rattle.flat_model.proofs.Sums.{count_by-cons}
use Rattle.flat_model.specs.Command.{Reply}
use Rattle.flat_model.specs.Replies.{out, commands_in, command_in, command_count, is_fault, is_numbered, reply_bytes, fault_bytes}
use Rattle.flat_model.specs.Trace as trace
use Rattle.flat_model.specs.Trace.{lines_in, read_line, read_trace}
use Rattle.undo_journal.specs.CommandMeaning.{command_of}
use Rattle.replay_main.specs.declared.reading.Script.{Script}
use Rattle.replay_main.specs.RangeResults.{IsRun}
use Rattle.replay_main.specs.Script.{AreScripts, IsCounted, IsScript, place_in, places_in, place_of, is_command, answers_from, run_of}
use Rattle.replay_main.proofs.RunJoins.{parts_join}

-- ---- scripts of pieces

counted_in : (lines : List trace.Line) → count_by is_command (places_in lines) ≡ length (commands_in lines)
counted_in [] = refl
counted_in (trace.Skip ∷ lines) = counted_in lines
counted_in (trace.Fault f ∷ lines) = let a = count_by-cons is_command (Some f) (places_in lines) in let b = counted_in lines in omega (arith, a, b)
counted_in (trace.Run c ∷ lines) = let a = count_by-cons is_command None (places_in lines) in let b = counted_in lines in omega (arith, a, b)

counted_of : (script : Script) (lines : List trace.Line) → IsScript script lines → IsCounted script
counted_of script lines is =
    ap (λ ps. count_by is_command ps) is.places ∙ counted_in lines ∙ sym (ap length is.commands) ∙ length-map script.commands.items command_of

-- the scripts of all pieces
pub are_scripts : {Y : Type 0} {post : ℕ → Result Script AllocError → Type 0} (scripts : List Script) (lines_of : Y → List trace.Line) (pieces : List Y) (k : ℕ)
    → length pieces ≤ k → IsRun post 0 k scripts
    → ((i : ℕ) (s : Script) → i < k → post i (Ok s) → IsScript s (flat_map lines_of (run_of 1 i pieces)))
    → AreScripts scripts (flat_map lines_of pieces)
are_scripts {Y} {post} scripts lines_of pieces k enough run each =
    let all : length pieces ≤ k * 1 = omega (arith, enough) in
    let len = run.len in
    let many : length scripts ≡ k = omega (arith, len) in
    let here : (i : ℕ) → 0 + i ≡ i = λ i. omega arith in
    record {
      commands = parts_join (λ s. map command_of s.commands.items) (λ ys. commands_in (flat_map lines_of ys)) pieces 1 k scripts
          (λ fs bs. ap (λ t. commands_in t) (flat_map-append lines_of fs bs) ∙ flat_map-append command_in (flat_map lines_of fs) (flat_map lines_of bs))
          refl all run (λ i s lt p. (each i s lt p).commands);
      places = parts_join (λ s. map place_of s.places.items) (λ ys. places_in (flat_map lines_of ys)) pieces 1 k scripts
          (λ fs bs. ap (λ t. places_in t) (flat_map-append lines_of fs bs) ∙ flat_map-append place_in (flat_map lines_of fs) (flat_map lines_of bs))
          refl all run (λ i s lt p. (each i s lt p).places);
      counted = λ i d lt. counted_of (get_or scripts i d) (flat_map lines_of (run_of 1 i pieces)) (each i (get_or scripts i d) (omega (arith, lt, many)) (subst (λ n. post n (Ok (get_or scripts i d))) (here i) (run.each i d lt)));
    }

-- the lines of one piece
pub one_piece : {Y Z : Type 0} (lines_of : Y → List Z) (pieces : List Y) (i : ℕ) (piece : Y) → i < length pieces → get_or pieces i piece ≡ piece
    → lines_of piece ≡ flat_map lines_of (run_of 1 i pieces)
one_piece lines_of pieces i piece inside is =
    let at : i * 1 ≡ i = omega arith in
    let one : run_of 1 i pieces ≡ piece ∷ [] =
    ap (λ n. take 1 (drop n pieces)) at ∙ ap (λ t. take 1 t) (drop_more pieces i piece inside) ∙ ap (λ x. x ∷ []) is in
    sym (append-nil (lines_of piece)) ∙ ap (λ t. flat_map lines_of t) (sym one)

-- the lines of all pieces
pub all_pieces : {Y : Type 0} (text : Y → List ℕ) (pieces : List Y) (whole : List ℕ) → flat_map (λ y. lines_in (text y)) pieces ≡ lines_in whole
    → flat_map (λ y. read_trace (text y)) pieces ≡ read_trace whole
all_pieces text pieces whole lines =
    mapped pieces ∙ ap (λ t. map read_line t) lines
  where
    mapped : (ys : List _) → flat_map (λ y. read_trace (text y)) ys ≡ map read_line (flat_map (λ y. lines_in (text y)) ys)
    mapped [] = refl
    mapped (y ∷ ys) = ap (λ t. read_trace (text y) ++ t) (mapped ys) ∙ sym (map-append read_line (lines_in (text y)) (flat_map (λ z. lines_in (text z)) ys))

-- ---- line after line

-- one line more is read, of which the script gets `more`
pub read_more : {Z : Type 0} (part : trace.Line → List Z) (old new whole : List Z) (line : trace.Line) (rest : List trace.Line)
    → new ≡ old ++ part line → old ++ flat_map part (line ∷ rest) ≡ whole → new ++ flat_map part rest ≡ whole
read_more part old new whole line rest n w =
    ap (λ t. t ++ flat_map part rest) n ∙ append_assoc old (part line) (flat_map part rest) ∙ w

-- ---- answers of runs

pub answers-append : (n : ℕ) (fs bs : List (Option trace.TextFault)) (rs : List Reply)
    → answers_from n (fs ++ bs) rs ≡ answers_from n fs rs ++ answers_from (n + length fs) bs (drop (count_by is_command fs) rs)
answers-append n [] bs rs = let e : n ≡ n + zero = omega arith in ap (λ k. answers_from k bs rs) e
answers-append n (Some f ∷ fs) bs rs =
    let e : n + 1 + length fs ≡ n + length (Some f ∷ fs) = omega arith in
    ap (λ t. fault_bytes n f ++ t) (answers-append (n + 1) fs bs rs)
    ∙ sym (append_assoc (fault_bytes n f) (answers_from (n + 1) fs rs) (answers_from (n + 1 + length fs) bs (drop (count_by is_command fs) rs)))
    ∙ ap (λ k. answers_from n (Some f ∷ fs) rs ++ answers_from k bs (drop (count_by is_command fs) rs)) e
answers-append n (None ∷ fs) bs [] =
    let e : n + 1 + length fs ≡ n + length (None ∷ fs) = omega arith in
    answers-append (n + 1) fs bs []
    ∙ ap (λ t. answers_from (n + 1) fs [] ++ answers_from (n + 1 + length fs) bs t) (drop_all (count_by is_command fs) [] (omega arith)
    ∙ sym (drop_all (count_by is_command (None ∷ fs)) [] (omega arith)))
    ∙ ap (λ k. answers_from (n + 1) fs [] ++ answers_from k bs (drop (count_by is_command (None ∷ fs)) [])) e
answers-append n (None ∷ fs) bs (r ∷ rs) =
    let counted : count_by is_command (None ∷ fs) ≡ suc (count_by is_command fs) = let a = count_by-cons is_command None fs in omega (arith, a) in
    let e : n + 1 + length fs ≡ n + length (None ∷ fs) = omega arith in
    ap (λ t. reply_bytes n r ++ t) (answers-append (n + 1) fs bs rs)
    ∙ sym (append_assoc (reply_bytes n r) (answers_from (n + 1) fs rs) (answers_from (n + 1 + length fs) bs (drop (count_by is_command fs) rs)))
    ∙ ap (λ k. answers_from n (None ∷ fs) (r ∷ rs) ++ answers_from k bs (drop (count_by is_command fs) rs)) e
    ∙ ap (λ k. answers_from n (None ∷ fs) (r ∷ rs) ++ answers_from (n + length (None ∷ fs)) bs (drop k (r ∷ rs))) (sym counted)

-- the answers need no more replies than commands
pub answers-front : (n : ℕ) (ps : List (Option trace.TextFault)) (rs : List Reply) → answers_from n ps (take (count_by is_command ps) rs) ≡ answers_from n ps rs
answers-front n [] rs = refl
answers-front n (Some f ∷ ps) rs = ap (λ t. fault_bytes n f ++ t) (answers-front (n + 1) ps rs)
answers-front n (None ∷ ps) [] =
    ap (λ t. answers_from n (None ∷ ps) t) (take_all (count_by is_command (None ∷ ps)) [] (omega arith))
answers-front n (None ∷ ps) (r ∷ rs) =
    let counted : count_by is_command (None ∷ ps) ≡ suc (count_by is_command ps) = let a = count_by-cons is_command None ps in omega (arith, a) in
    ap (λ k. answers_from n (None ∷ ps) (take k (r ∷ rs))) counted ∙ ap (λ t. reply_bytes n r ++ t) (answers-front (n + 1) ps rs)

-- ---- the whole script

-- the answers are those of the model
pub answers-out : (n : ℕ) (lines : List trace.Line) (rs : List Reply) → length rs ≡ length (commands_in lines) → answers_from n (places_in lines) rs ≡ out n lines rs
answers-out n [] rs same = refl
answers-out n (trace.Skip ∷ lines) rs same = answers-out n lines rs same
answers-out n (trace.Fault f ∷ lines) rs same = ap (λ t. fault_bytes n f ++ t) (answers-out (n + 1) lines rs same)
answers-out n (trace.Run c ∷ lines) [] same = absurd (omega (arith, same))
answers-out n (trace.Run c ∷ lines) (r ∷ rs) same = ap (λ t. reply_bytes n r ++ t) (answers-out (n + 1) lines rs (omega (arith, same)))

pub places-count : (lines : List trace.Line) → length (places_in lines) ≡ command_count lines
places-count [] = refl
places-count (trace.Skip ∷ lines) = let a = count_by-cons is_numbered trace.Skip lines in let b = places-count lines in omega (arith, a, b)
places-count (trace.Fault f ∷ lines) = let a = count_by-cons is_numbered (trace.Fault f) lines in let b = places-count lines in omega (arith, a, b)
places-count (trace.Run c ∷ lines) = let a = count_by-cons is_numbered (trace.Run c) lines in let b = places-count lines in omega (arith, a, b)

pub places-faults : (lines : List trace.Line) → count_by (λ p. is_some p) (places_in lines) ≡ count_by is_fault lines
places-faults [] = refl
places-faults (trace.Skip ∷ lines) = let a = count_by-cons is_fault trace.Skip lines in let b = places-faults lines in omega (arith, a, b)
places-faults (trace.Fault f ∷ lines) =
    let a = count_by-cons is_fault (trace.Fault f) lines in
    let c = count_by-cons (λ p. is_some p) (Some f) (places_in lines) in
    let b = places-faults lines in
    omega (arith, a, b, c)
places-faults (trace.Run c ∷ lines) =
    let a = count_by-cons is_fault (trace.Run c) lines in
    let d = count_by-cons (λ p. is_some p) None (places_in lines) in
    let b = places-faults lines in
    omega (arith, a, b, d)
