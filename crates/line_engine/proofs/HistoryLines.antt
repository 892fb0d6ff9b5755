-- The lines of the recorded commands, one after another.
use Rattle.std.proofs.Common.{◌≡◌, ◌∙◌, ℕ, ◌+◌, ◌-◌, ◌≤◌, List, [], ◌∷◌, ◌++◌, map, length, Some, sym, ap, append_assoc, append-nil, arith}
use Rattle.std.specs.List.{slice_get}
use Rattle.std.proofs.lemmas.List.{drop_all, drop_more, length-drop, length-map, length-reverse}
use Rattle.std.proofs.lemmas.Option.{get_or_from_slice_get, slice_get_within}
use Rattle.flat_model.specs.Command.{Command}
use Rattle.flat_model.specs.CommandText.{command_text}
use Rattle.flat_model.specs.FileText.{line}
use Rattle.flat_model.specs.State.{State}
use Rattle.undo_journal.specs.Answer.{recorded_commands}
use Rattle.line_engine.specs.Listings.{history_from, lines_bytes}

length-recorded : (past : List (Command × State)) → length (recorded_commands past) ≡ length past
length-recorded past =
    let first = λ (e : Command × State). e.0 in
    length-reverse (map first past) ∙ length-map past first

pub length-history : (past : List (Command × State)) (from : ℕ) → length past - from ≡ length (history_from past from)
length-history past from = omega (arith, length-drop from (recorded_commands past), length-recorded past)

-- ---- one command more

pub line_more : (past : List (Command × State)) (i : ℕ) (c : Command) (old more new text goal : List ℕ)
    → Some c ≡ slice_get (recorded_commands past) i → text ≡ command_text c → more ≡ old ++ text → new ≡ more ++ 10 ∷ []
    → old ++ lines_bytes (history_from past i) ≡ goal → new ++ lines_bytes (history_from past (i + 1)) ≡ goal
line_more past i c old more new text goal at t m n was =
    let cs = recorded_commands past in
    let rest = lines_bytes (history_from past (i + 1)) in
    let is : slice_get cs i ≡ Some c = sym at in
    ap (λ b. b ++ rest) (n ∙ ap (λ b. b ++ 10 ∷ []) (m ∙ ap (λ b. old ++ b) t) ∙ append_assoc old (command_text c) (10 ∷ []))
    ∙ append_assoc old (line (command_text c)) rest
    ∙ ap (λ (ds : List Command). old ++ lines_bytes ds)
    (sym (drop_more cs i c (slice_get_within cs i c is) ∙ ap (λ (d : Command). d ∷ history_from past (i + 1)) (get_or_from_slice_get cs i c c is)))
    ∙ was

-- ---- no command is left

pub lines_all : (past : List (Command × State)) (i : ℕ) (now goal : List ℕ) → length past ≤ i → now ++ lines_bytes (history_from past i) ≡ goal → now ≡ goal
lines_all past i now goal le was =
    let none : history_from past i ≡ [] = drop_all i (recorded_commands past) (omega (arith, length-recorded past)) in
    sym (append-nil now) ∙ ap (λ (ds : List Command). now ++ lines_bytes ds) (sym none) ∙ was
