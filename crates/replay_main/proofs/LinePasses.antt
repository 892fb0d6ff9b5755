-- One pass over the lines of a trace, from one line to the next.
use Rattle.std.proofs.Common.{◌≡◌, ◌∙◌, ℕ, ◌+◌, ◌≤◌, List, [], ◌∷◌, ◌++◌, append_assoc, append-nil, length, sym, ap, arith}
use Rattle.std.proofs.lemmas.List.{length-map}
use Rattle.std.proofs.lemmas.List.Sums.{count_by-le-length}
use Rattle.flat_model.specs.Replies.{is_numbered}
use Rattle.flat_model.specs.Trace.{Line, lines_in, read_line, read_trace, trace_max}
use Rattle.trace_talk.specs.Points.{Point, answers_on, point_after, start_point, summary_of}
use Rattle.replay_main.specs.Replayed.{IsAnswered}
use Rattle.replay_main.proofs.PhaseAnswers.{few_lines}
use Rattle.trace_talk.proofs.PointCuts.{answers_on_cut, point_cut}

-- ---- before the first line

pub few_at_start : (trace : List ℕ) (now : Point) → now ≡ start_point → length trace ≤ trace_max → now.commands + length (lines_in trace) ≤ trace_max + 1
few_at_start trace now p short =
    let n = ap (λ q. q.commands) p in
    let few = few_lines trace short in
    let same = length-map (lines_in trace) read_line in
    omega (arith, n, few, same)

-- ---- one line more

pub few_more : (old new : Point) (line : Line) (text : List ℕ) (rest : List (List ℕ)) (most : ℕ) → new ≡ point_after old (line ∷ [])
    → old.commands + length (text ∷ rest) ≤ most → new.commands + length rest ≤ most
few_more old new line text rest most n few =
    let c = ap (λ q. q.commands) n in
    let one = count_by-le-length is_numbered (line ∷ []) in
    omega (arith, c, one, few)

pub bytes_more : (old new : Point) (line : Line) (lines : List Line) (before after whole : List ℕ) → new ≡ point_after old (line ∷ []) → after ≡ before ++ answers_on old (line ∷ [])
    → before ++ answers_on old (line ∷ lines) ≡ whole → after ++ answers_on new lines ≡ whole
bytes_more old new line lines before after whole n a w =
    ap (λ x. x ++ answers_on new lines) a ∙ append_assoc before (answers_on old (line ∷ [])) (answers_on new lines)
    ∙ ap (λ p. before ++ (answers_on old (line ∷ []) ++ answers_on p lines)) n ∙ ap (λ x. before ++ x) (sym (answers_on_cut old (line ∷ []) lines)) ∙ w

pub point_on : (old new end : Point) (line : Line) (lines : List Line) → new ≡ point_after old (line ∷ []) → point_after old (line ∷ lines) ≡ end → point_after new lines ≡ end
point_on old new end line lines n e = ap (λ p. point_after p lines) n ∙ sym (point_cut old (line ∷ []) lines) ∙ e

-- ---- behind the last line

pub passed : (trace bytes : List ℕ) (end : Point) → bytes ++ answers_on end [] ≡ answers_on start_point (read_trace trace) → point_after end [] ≡ point_after start_point (read_trace trace)
    → IsAnswered trace bytes (summary_of end)
passed trace bytes end b p =
    let commands = ap (λ q. q.commands) p in
    let refused = ap (λ q. q.refused) p in
    record {
      bytes_are = sym (append-nil bytes) ∙ b;
      counts = record {
        commands = omega (arith, commands);
        refused = omega (arith, refused);
      };
    }
