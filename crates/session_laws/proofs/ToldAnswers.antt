-- Answers by replies that are at hand, and the answers of a whole script.
use Rattle.std.proofs.Common.{◌≡◌, ◌∙◌, ℕ, ◌+◌, List, [], ◌∷◌, ◌++◌, length, map, suc, refl, sym, ap, Some}
use Rattle.std.proofs.lemmas.List.{length-map}
use Rattle.flat_model.specs.Command.{Command, Reply}
use Rattle.flat_model.specs.Machine.{Machine, new_machine, replies, tick}
use Rattle.flat_model.specs.Replies.{answers_to, command_count, commands_in, fault_bytes, line_replies, out, reply_bytes}
use Rattle.flat_model.specs.Trace as trace
use Rattle.replay_main.specs.Rehearsed.{answers_at_hand}
use Rattle.replay_main.specs.Script.{IsScript, TraceScript, answers_from, place_of, places_in}
use Rattle.replay_main.proofs.ScriptLaws.{answers-out, places-count}

pub at-hand : (n : ℕ) (lines : List trace.Line) (rs : List Reply) → answers_at_hand n (places_in lines) (map (λ r. Some r) rs) ≡ out n lines rs
at-hand n [] rs = refl
at-hand n (trace.Skip ∷ lines) rs = at-hand n lines rs
at-hand n (trace.Fault f ∷ lines) rs = ap (λ t. fault_bytes n f ++ t) (at-hand (n + 1) lines rs)
at-hand n (trace.Run c ∷ lines) [] = refl
at-hand n (trace.Run c ∷ lines) (r ∷ rs) = ap (λ t. reply_bytes n r ++ t) (at-hand (n + 1) lines rs)

-- the machine gives each command a reply
replies-length : (slots : ℕ) (m : Machine) (cs : List Command) → length (replies slots m cs) ≡ length cs
replies-length slots m [] = refl
replies-length slots m (c ∷ cs) = ap suc (replies-length slots (tick slots m c).0 cs)

pub script_answers : (slots : ℕ) (lines : List trace.Line) → answers_from 1 (places_in lines) (line_replies slots lines) ≡ answers_to slots lines
script_answers slots lines = answers-out 1 lines (line_replies slots lines) (replies-length slots new_machine (commands_in lines))

pub script_places : (script : TraceScript) (lines : List trace.Line) → IsScript script lines → length script.places.items ≡ command_count lines
script_places script lines is = sym (length-map script.places.items place_of) ∙ ap length is.places ∙ places-count lines
