use Rattle.std.proofs.Common.{◌∙◌, sym}
use Rattle.trace_lines.proofs.TextCuts.{behind_some_slice, behind_none}
use Rattle.trace_lines.proofs.words.behind_blanks.Goals as goal

pub returns-in-Some-clause-words : goal.returns-in-Some-clause-words
returns-in-Some-clause-words c = (behind_some_slice c.args.line.now c.in-Some.start (sym c.in-Some.is ∙ c.word_start.ensures)).0

pub returns-in-Some-clause-first : goal.returns-in-Some-clause-first
returns-in-Some-clause-first c = (behind_some_slice c.args.line.now c.in-Some.start (sym c.in-Some.is ∙ c.word_start.ensures)).1

pub returns-in-None-clause-words : goal.returns-in-None-clause-words
returns-in-None-clause-words c = behind_none c.args.line.now (sym c.in-None.is ∙ c.word_start.ensures)
