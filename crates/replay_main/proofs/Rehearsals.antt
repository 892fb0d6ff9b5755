-- The answers to a trace by replies that are at hand.
use Rattle.std.proofs.Common.{◌≡◌, ◌∙◌, ℕ, ◌+◌, List, [], ◌∷◌, ◌++◌, Option, Some, is_some, map, length, refl, sym, ap}
use Rattle.std.specs.List.{count_by}
use Rattle.std.proofs.lemmas.List.{length-map}
use Rattle.flat_model.proofs.Sums.{count_by-map}
use Rattle.flat_model.specs.Command.{Reply}
use Rattle.flat_model.specs.Machine.{new_machine, replies}
use Rattle.flat_model.specs.Replies.{fault_bytes, is_fault, is_refused, line_replies, out, reply_bytes}
use Rattle.flat_model.specs.Trace.{Line, Skip, Run, Fault, read_trace}
use Rattle.undo_journal.specs.CommandMeaning.{command_of}
use Rattle.replay_main.specs.declared.reading.Script.{Script}
use Rattle.trace_talk.specs.declared.summary.Summary.{Summary}
use Rattle.replay_main.specs.Rehearsed.{answers_at_hand, is_refusal}
use Rattle.sessions.specs.SessionMeaning.{slots}
use Rattle.replay_main.specs.Replayed.{IsAnswered}
use Rattle.replay_main.specs.Script.{IsScript, place_of, places_in}
use Rattle.replay_main.proofs.ScriptLaws.{places-count, places-faults}

answers-are : (n : ℕ) (lines : List Line) (rs : List Reply) → answers_at_hand n (places_in lines) (map Some rs) ≡ out n lines rs
answers-are n [] rs = refl
answers-are n (Skip ∷ lines) rs = answers-are n lines rs
answers-are n (Fault f ∷ lines) rs = ap (λ t. fault_bytes n f ++ t) (answers-are (n + 1) lines rs)
answers-are n (Run c ∷ lines) [] = refl
answers-are n (Run c ∷ lines) (r ∷ rs) = ap (λ t. reply_bytes n r ++ t) (answers-are (n + 1) lines rs)

refusals-are : (rs : List Reply) → count_by is_refusal (map Some rs) ≡ count_by is_refused rs
refusals-are rs = count_by-map is_refusal Some rs

pub rehearsed_is : (trace bytes : List ℕ) (script : Script) (os : List (Option Reply)) (summary : Summary) (faults refused : ℕ)
    → IsScript script (read_trace trace) → os ≡ map Some (replies slots new_machine (map command_of script.commands.items)) → bytes ≡ answers_at_hand 1 (map place_of script.places.items) os
    → summary.commands ≡ length script.places.items → summary.refused ≡ faults + refused → faults ≡ count_by is_some (map place_of script.places.items) → refused ≡ count_by is_refusal os
    → IsAnswered trace bytes summary
rehearsed_is trace bytes script os summary faults refused s o b sc sr f k =
    let lines = read_trace trace in
    let rs = line_replies slots lines in
    let os_are : os ≡ map Some rs = o ∙ ap (λ cs. map Some (replies slots new_machine cs)) s.commands in
    let f_is : faults ≡ count_by is_fault lines = f ∙ ap (λ ps. count_by is_some ps) s.places ∙ places-faults lines in
    let k_is : refused ≡ count_by is_refused rs = k ∙ ap (λ x. count_by is_refusal x) os_are ∙ refusals-are rs in
    record {
      bytes_are = b ∙ ap (λ ps. answers_at_hand 1 ps os) s.places ∙ ap (λ x. answers_at_hand 1 (places_in lines) x) os_are ∙ answers-are 1 lines rs;
      counts = record {
        commands = sc ∙ sym (length-map script.places.items place_of) ∙ ap (λ ps. length ps) s.places ∙ places-count lines;
        refused = sr ∙ ap (λ x. x + refused) f_is ∙ ap (λ x. count_by is_fault lines + x) k_is;
      };
    }
