use Rattle.std.proofs.Common.{◌++◌, codes, ap, sym, arith}
use Rattle.std.proofs.lemmas.Fmt.{decimal_digit}
use Rattle.flat_model.specs.FileText.{line}
use Rattle.journal_laws.proofs.lines.replies_are_told_apart.Goals as goal

pub returns-clause-done : goal.returns-clause-done
returns-clause-done c = sym (ap (λ d. codes "1 ok\n" ++ line (d ++ codes " ok")) (decimal_digit 2 (omega arith)))

pub returns-clause-text : goal.returns-clause-text
returns-clause-text c = sym (ap (λ d. codes "1 ok\n" ++ line (d ++ codes " ok") ++ codes "| a\n| b\n") (decimal_digit 2 (omega arith)))

pub returns-clause-nothing : goal.returns-clause-nothing
returns-clause-nothing c = sym (ap (λ d. line (d ++ codes " refused " ++ codes "nothing")) (decimal_digit 3 (omega arith)))

pub returns-clause-refused : goal.returns-clause-refused
returns-clause-refused c = sym (ap (λ d. line (d ++ codes " refused " ++ codes "direction")) (decimal_digit 4 (omega arith)))
