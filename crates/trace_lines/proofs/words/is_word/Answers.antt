use Rattle.std.proofs.Common.{slice_index_or, length, ap, arith}
use Rattle.std.proofs.lemmas.List.{ext_get_or}
use Rattle.trace_lines.proofs.SameTexts.{differ, agree}
use Rattle.trace_lines.proofs.words.is_word.Goals as goal

pub returns-then-word-text : goal.returns-then-word-text
returns-then-word-text c = differ c.args.word.now c.args.text.now (λ e. c.if-word-text.true (ap length e))

pub returns-then-word-i : goal.returns-then-word-i
returns-then-word-i c = differ c.args.word.now c.args.text.now (λ e. c.if-word-i.true (ap (λ xs. slice_index_or xs c.loop-i.i 0) e))

pub returns : goal.returns
returns c =
    agree c.args.word.now c.args.text.now
    (ext_get_or 0 c.args.word.now c.args.text.now c.if-word-text.false (λ k h. c.loop-i.invariant k (omega (arith, h, c.if-word-text.false, c.loop-i-test.false))))
