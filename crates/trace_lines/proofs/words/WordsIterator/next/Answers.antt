use Rattle.std.proofs.Common.{◌∙◌, ap, sym, arith, length}
use Rattle.std.proofs.lemmas.Grind.{common_steps}
use Rattle.trace_lines.proofs.TextCuts.{word_at_slice, last_word}
use Rattle.trace_lines.proofs.words.WordsIterator.next.Goals as goal

pub returns-in-Some-clause-steps : goal.returns-in-Some-clause-steps
returns-in-Some-clause-steps c = word_at_slice c.args.self.now c.behind_blanks-bytes.result.now c.in-Some.end (sym c.self.view_is
    ∙ sym c.behind_blanks-bytes.ensures.words) c.behind_blanks-bytes.ensures.first (sym c.in-Some.is ∙ c.word_end.ensures)

pub returns-in-Some-clause-goes : goal.returns-in-Some-clause-goes
returns-in-Some-clause-goes c = let e = returns-in-Some-clause-steps c in grind (arith, common_steps, ap length e)

pub returns-in-None-clause-steps : goal.returns-in-None-clause-steps
returns-in-None-clause-steps c =
    last_word c.args.self.now c.behind_blanks-bytes.result.now (sym c.self.view_is
    ∙ sym c.behind_blanks-bytes.ensures.words) (sym c.is_empty.ensures ∙ c.if-is_empty.false) (sym c.in-None.is ∙ c.word_end.ensures)
