use Rattle.std.proofs.Common.{◌∙◌, sym}
use Rattle.group_path.proofs.GrammarTests.{read_found, read_only, read_faulty}
use Rattle.group_path.proofs.path.GroupPath.read.Goals as goal

pub returns-in_err-check_text-clause-only : goal.returns-in_err-check_text-clause-only
returns-in_err-check_text-clause-only g c = λ p h t. absurd (read_faulty c.args.text.now c.in_err-check_text.field-0.0 p (sym c.check_text.ensures ∙ c.in_err-check_text.was) h t)

pub returns-clause-found : goal.returns-clause-found
returns-clause-found g c = read_found c.args.text.now c.in_ok-text.text c.in_ok-check_text.field-0 (sym c.check_text.ensures ∙ c.in_ok-check_text.was) c.in_ok-text.ensures.same

pub returns-clause-only : goal.returns-clause-only
returns-clause-only g c = λ p h t. read_only c.args.text.now c.in_ok-text.text p c.in_ok-text.ensures.same h t
