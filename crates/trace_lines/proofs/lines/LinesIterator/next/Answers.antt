use Rattle.std.proofs.Common.{◌∙◌, ap, sym, arith, length}
use Rattle.std.proofs.lemmas.Grind.{common_steps}
use Rattle.trace_lines.proofs.TextCuts.{lines_at_slice, last_line}
use Rattle.trace_lines.proofs.lines.LinesIterator.next.Goals as goal

pub returns-in-Some-clause-steps : goal.returns-in-Some-clause-steps
returns-in-Some-clause-steps c = lines_at_slice c.args.self.now c.self.inside.rest.now c.in-Some.end c.self.view_is (sym c.in-Some.is ∙ c.line_end.ensures)

pub returns-in-Some-clause-goes : goal.returns-in-Some-clause-goes
returns-in-Some-clause-goes c = let e = returns-in-Some-clause-steps c in grind (arith, common_steps, ap length e)

pub returns-in-None-clause-steps : goal.returns-in-None-clause-steps
returns-in-None-clause-steps c = last_line c.args.self.now c.self.inside.rest.now c.self.view_is (sym c.is_empty.ensures ∙ c.if-is_empty.false) (sym c.in-None.is ∙ c.line_end.ensures)
