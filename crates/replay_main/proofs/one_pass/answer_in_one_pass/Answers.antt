use Rattle.std.proofs.Common.{rules, ◌≡◌, ◌∙◌, ◌+◌, ◌≤◌, List, [], ◌∷◌, ◌++◌, ℕ, length, map, ap, sym, subst}
use Rattle.flat_model.specs.Trace.{lines_in, read_line, read_trace, trace_max}
use Rattle.trace_talk.specs.Points.{IsSaid, answers_on, point_after, start_point}
use Rattle.replay_main.proofs.LinePasses.{bytes_more, few_at_start, few_more, point_on}
use Rattle.replay_main.proofs.one_pass.answer_in_one_pass.Goals as goal

pub loop-line-init : goal.loop-line-init
loop-line-init c =
    let trace = c.args.trace.now in
    let talk = c.in_ok-talk.talk in
    let start : talk ≡ start_point = search rules in
    let lines : c.into_iter-line-iterator.result ≡ lines_in trace = search rules in
    let none : c.new-bytes.result.items ≡ [] = search rules in
    record {
      can = tt;
      finite = tt;
      few = subst (λ ls. talk.commands + length ls ≤ trace_max + 1) (sym lines) (few_at_start trace talk start c.requires);
      bytes = ap (λ bs. bs ++ answers_on talk (map read_line c.into_iter-line-iterator.result)) none
          ∙ ap (λ ls. answers_on talk (map read_line ls)) lines ∙ ap (λ p. answers_on p (read_trace trace)) start;
      point = ap (λ ls. point_after talk (map read_line ls)) lines ∙ ap (λ p. point_after p (read_trace trace)) start;
    }

pub loop-line-preserved : goal.loop-line-preserved
loop-line-preserved c =
    let whole = answers_on start_point (read_trace c.args.trace.now) in
    let end = point_after start_point (read_trace c.args.trace.now) in
    let old = c.loop-line.talk in
    let new = c.put_answer.new.self in
    let line = read_line c.in-Some.line.now in
    let rest = c.next.new.self in
    let inv = c.loop-line.invariant in
    let cut : c.loop-line.line-iterator ≡ c.in-Some.line.now ∷ rest = search rules in
    let said : IsSaid old line c.loop-line.bytes.items c.put_answer.new.bytes.items new = search rules in
    record {
      can = tt;
      finite = tt;
      few = few_more old new line c.in-Some.line.now rest (trace_max + 1) said.point (subst (λ (ls : List (List ℕ)). old.commands + length ls ≤ trace_max + 1) cut inv.few);
      bytes = bytes_more old new line (map read_line rest) c.loop-line.bytes.items c.put_answer.new.bytes.items whole said.point
          said.bytes_are (ap (λ ls. c.loop-line.bytes.items ++ answers_on old (map read_line ls)) (sym cut) ∙ inv.bytes);
      point = point_on old new end line (map read_line rest) said.point (ap (λ ls. point_after old (map read_line ls)) (sym cut) ∙ inv.point);
    }
