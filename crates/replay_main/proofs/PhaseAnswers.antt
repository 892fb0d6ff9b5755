-- What the three phases give together, and what is left where their work ended.
use Rattle.std.proofs.Common.{◌≡◌, ◌∙◌, ℕ, ◌+◌, ◌≤◌, ◌<◌, ◌==◌, Bool, true, false, cond, List, [], ◌∷◌, length, map, ap, sym, subst, arith, Option, Some, None, is_some, Err}
use Rattle.std.specs.List.{count_by, slice_split}
use Rattle.std.proofs.lemmas.List.{length-map}
use Rattle.std.proofs.lemmas.List.Sums.{count_by-le-length}
use Rattle.std.proofs.lemmas.List.Splits.{length-slice_split}
use Rattle.flat_model.specs.Log.{Entry, IsLegal}
use Rattle.flat_model.specs.Machine.{new_machine, replies}
use Rattle.flat_model.specs.Replies.{out, commands_in, is_fault, is_refused, is_numbered, line_replies}
use Rattle.flat_model.specs.Trace.{TextFault, is_line_feed, without_empty_end, lines_in, read_line, read_trace, trace_max}
use Rattle.replay_main.specs.declared.fault.ReplayFault.{ReplayFault}
use Rattle.replay_main.specs.declared.fault.ReplayFault.TheVariants.{Read, Write, InputTooLong, OutOfMemory, Close}
use Rattle.trace_talk.specs.declared.summary.Summary.{Summary}
use Rattle.program_io.specs.Device.{IsInput, IsUnwritten}
use Rattle.sessions.specs.SessionMeaning.{slots}
use Rattle.replay_main.specs.declared.reading.Script.{Script}
use Rattle.replay_main.specs.Script.{AreLogged, AreScripts, all_commands, all_places, answers_from, is_command}
use Rattle.replay_main.specs.Replayed.{EndsWork, IsAnswered, IsShort, Replayed}
use Rattle.replay_main.proofs.LogParts.{counted_all}
use Rattle.replay_main.proofs.ScriptLaws.{answers-out, places-count, places-faults}

-- ---- the number of lines

shorter_by : (piece : List ℕ) (b : Bool) → length (cond b [] (piece ∷ [])) ≤ 1
shorter_by piece true = omega arith
shorter_by piece false = omega arith

shorter : (parts : List (List ℕ)) → length (without_empty_end parts) ≤ length parts
shorter [] = omega arith
shorter (piece ∷ []) = shorter_by piece (length piece == 0)
shorter (piece ∷ next ∷ parts) = let rest = shorter (next ∷ parts) in omega (arith, rest)

pub few_lines : (trace : List ℕ) → length trace ≤ trace_max → length (read_trace trace) ≤ trace_max + 1
few_lines trace short =
    let a = shorter (slice_split is_line_feed trace) in
    let b = length-slice_split is_line_feed trace in
    let c = count_by-le-length is_line_feed trace in
    let d = length-map (lines_in trace) read_line in
    omega (arith, a, b, c, d, short)

-- no more lines with a number than lines, and no more commands
pub few_places : (trace : List ℕ) (scripts : List Script) → length trace ≤ trace_max → AreScripts scripts (read_trace trace) → length (all_places scripts) < 1152921504606846976
few_places trace scripts short are =
    let a = few_lines trace short in
    let b = count_by-le-length is_numbered (read_trace trace) in
    let c = places-count (read_trace trace) in
    let d = ap length are.places in
    omega (arith, a, b, c, d)

pub few_commands : (trace : List ℕ) (scripts : List Script) → length trace ≤ trace_max → AreScripts scripts (read_trace trace) → length (all_commands scripts) < 1152921504606846976
few_commands trace scripts short are =
    let a = few_places trace scripts short are in
    let b = counted_all scripts are.counted in
    let c = count_by-le-length is_command (all_places scripts) in
    omega (arith, a, b, c)

-- no more refusals than lines with a number and commands
pub few_refused : (trace : List ℕ) (scripts : List Script) (log : List Entry) (refused : ℕ) → length trace ≤ trace_max → AreScripts scripts (read_trace trace)
    → length log ≡ length (all_commands scripts)
    → refused ≡ count_by is_some (all_places scripts) + count_by is_refused (map (λ (e : Entry). e.reply) log) → refused < 9223372036854775808
few_refused trace scripts log refused short are many is =
    let a = few_places trace scripts short are in
    let b = few_commands trace scripts short are in
    let c = count_by-le-length (λ (p : Option TextFault). is_some p) (all_places scripts) in
    let d = count_by-le-length is_refused (map (λ (e : Entry). e.reply) log) in
    let e = length-map log (λ (e : Entry). e.reply) in
    omega (arith, a, b, c, d, e, many, is)

-- ---- the answers

pub is_answered : (trace bytes : List ℕ) (scripts : List Script) (log : List Entry) (workers : ℕ) (summary : Summary)
    → AreScripts scripts (read_trace trace) → IsLegal slots log → AreLogged workers 0 (all_commands scripts) log
    → bytes ≡ answers_from 1 (all_places scripts) (map (λ (e : Entry). e.reply) log) → summary.commands ≡ length (all_places scripts)
    → summary.refused ≡ count_by is_some (all_places scripts) + count_by is_refused (map (λ (e : Entry). e.reply) log)
    → IsAnswered trace bytes summary
is_answered trace bytes scripts log workers summary are legal logged b sc sr =
    let lines = read_trace trace in
    let rs = map (λ (e : Entry). e.reply) log in
    let cs : map (λ (e : Entry). e.command) log ≡ commands_in lines = logged.commands_are ∙ are.commands in
    let all : rs ≡ line_replies slots lines = sym legal ∙ ap (λ x. replies slots new_machine x) cs in
    let many : length rs ≡ length (commands_in lines) = length-map log (λ (e : Entry). e.reply) ∙ sym (length-map log (λ (e : Entry). e.command)) ∙ ap length cs in
    let put : bytes ≡ out 1 lines rs = b ∙ ap (λ x. answers_from 1 x rs) are.places ∙ answers-out 1 lines rs many in
    let f_is : count_by is_some (all_places scripts) ≡ count_by is_fault lines = ap (λ x. count_by (λ p. is_some p) x) are.places ∙ places-faults lines in
    let k_is : count_by is_refused rs ≡ count_by is_refused (line_replies slots lines) = ap (λ x. count_by is_refused x) all in
    record {
      bytes_are = put ∙ ap (λ x. out 1 lines x) all;
      counts = record {
        commands = sc ∙ ap length are.places ∙ places-count lines;
        refused = sr ∙ ap (λ x. x + count_by is_refused rs) f_is ∙ ap (λ x. count_by is_fault lines + x) k_is;
      };
    }

-- ---- where the work ended

is_short : (left : Option (List ℕ)) (bytes : List ℕ) → IsInput left bytes → length bytes ≤ trace_max → IsShort left
is_short None bytes is short = tt
is_short (Some xs) bytes is short = subst (λ ys. length ys ≤ trace_max) (sym is) short

pub ended : (left : Option (List ℕ)) (bytes : List ℕ) (before after : Option (List ℕ)) (read_failed write_failed flushed : Bool) (fault : ReplayFault)
    → EndsWork fault → read_failed ≡ false → length bytes ≤ trace_max → IsInput left bytes → IsUnwritten before after write_failed
    → Replayed left read_failed before after write_failed flushed (Err fault)
ended left bytes before after read_failed write_failed flushed Read e r short is u = absurd e
ended left bytes before after read_failed write_failed flushed Write e r short is u = absurd e
ended left bytes before after read_failed write_failed flushed InputTooLong e r short is u = absurd e
ended left bytes before after read_failed write_failed flushed OutOfMemory e r short is u = (r, u)
ended left bytes before after read_failed write_failed flushed Close e r short is u = (is_short left bytes is short, r, u)
