use Rattle.std.proofs.Common.{◌≡◌, ◌∙◌, sym, true, get_or, arith}
use Rattle.std.specs.Char.{is_ascii_digit}
use Rattle.interface_files.proofs.ShortNumbers.{digits_so_far, value_so_far, below_million, short_is}
use Rattle.interface_files.proofs.value.short_pid.Goals as goal

pub overflow_mul-number : goal.overflow_mul-number
overflow_mul-number c =
    let small = below_million c.args.text.now c.loop-byte.byte-index c.loop-byte.number c.loop-byte-test.true c.if-text-gt7.false c.loop-byte.invariant.value c.loop-byte.invariant.digits in
    omega (arith, small)

pub overflow_add-number : goal.overflow_add-number
overflow_add-number c =
    let small = below_million c.args.text.now c.loop-byte.byte-index c.loop-byte.number c.loop-byte-test.true c.if-text-gt7.false c.loop-byte.invariant.value c.loop-byte.invariant.digits in
    omega (arith, small, c.from.ensures, c.type_inv.text c.loop-byte.byte-index)

pub loop-byte-preserved : goal.loop-byte-preserved
loop-byte-preserved c =
    let digit : is_ascii_digit (get_or c.args.text.now c.loop-byte.byte-index 0) ≡ true = sym c.is_ascii_digit.ensures.value ∙ c.if-not-is_ascii_digit.false in
    record {
      digits = digits_so_far c.args.text.now c.loop-byte.byte-index c.loop-byte-test.true c.loop-byte.invariant.digits digit;
      value = value_so_far c.args.text.now c.loop-byte.byte-index c.loop-byte.number c.from.result c.loop-byte-test.true c.loop-byte.invariant.value digit c.from.ensures;
    }

pub returns : goal.returns
returns c = short_is c.args.text.now c.loop-byte.byte-index c.loop-byte.number c.loop-byte-test.false c.loop-byte.invariant.digits
    (sym c.begins_with_zero.ensures ∙ c.if-begins_with_zero.false) c.loop-byte.invariant.value c.if-number-lt1.false c.if-number-gt-PID_MAX.false
