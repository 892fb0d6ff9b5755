use Rattle.std.proofs.Common.{◌∙◌, sym, arith}
use Rattle.interface_files.proofs.Numbers.{empty_is, letters_are, padded_is, beyond_is, number_is}
use Rattle.interface_files.proofs.number.read_number.Goals as goal

pub returns-then-is_empty : goal.returns-then-is_empty
returns-then-is_empty c = empty_is c.args.low c.args.high c.args.digits.now (sym c.is_empty.ensures ∙ c.if-is_empty.true)

pub returns-then-not-are_digits : goal.returns-then-not-are_digits
returns-then-not-are_digits c = letters_are c.args.low c.args.high c.args.digits.now (sym c.is_empty.ensures ∙ c.if-is_empty.false) (sym c.are_digits.ensures ∙ c.if-not-are_digits.true)

pub returns-then-is_padded : goal.returns-then-is_padded
returns-then-is_padded c =
    padded_is c.args.low c.args.high c.args.digits.now (sym c.is_empty.ensures ∙ c.if-is_empty.false) (sym c.are_digits.ensures
    ∙ c.if-not-are_digits.false) (sym c.is_padded.ensures ∙ c.if-is_padded.true)

pub returns-in_default : goal.returns-in_default
returns-in_default c =
    beyond_is c.args.low c.args.high c.args.digits.now (sym c.is_empty.ensures ∙ c.if-is_empty.false) (sym c.are_digits.ensures
    ∙ c.if-not-are_digits.false) (sym c.is_padded.ensures ∙ c.if-is_padded.false)
    (λ l h. c.in_default.ensures h)

pub returns-then-value-low : goal.returns-then-value-low
returns-then-value-low c =
    beyond_is c.args.low c.args.high c.args.digits.now (sym c.is_empty.ensures ∙ c.if-is_empty.false) (sym c.are_digits.ensures
    ∙ c.if-not-are_digits.false) (sym c.is_padded.ensures ∙ c.if-is_padded.false)
    (λ l h. absurd (omega (arith, l, c.in-Some.ensures.1, c.if-value-low.true)))

pub returns : goal.returns
returns c =
    let e = c.in-Some.ensures in
    number_is c.args.low c.args.high c.args.digits.now c.in-Some.value (sym c.is_empty.ensures
    ∙ c.if-is_empty.false) (sym c.are_digits.ensures ∙ c.if-not-are_digits.false) (sym c.is_padded.ensures
    ∙ c.if-is_padded.false) (omega (arith, e.1, c.if-value-low.false)) e.0 e.1
