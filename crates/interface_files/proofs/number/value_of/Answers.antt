use Rattle.std.proofs.Common.{◌+◌, ◌*◌}
use Rattle.interface_files.proofs.Numbers.{digit_range, value_more, great_is_beyond}
use Rattle.interface_files.proofs.number.value_of.Goals as goal

pub overflow_sub-digit : goal.overflow_sub-digit
overflow_sub-digit c = (digit_range c.args.digits.now c.loop-digit.digit-index c.loop-digit-test.true c.requires).0

pub returns-then-value-most : goal.returns-then-value-most
returns-then-value-most c =
    let more = value_more c.args.digits.now c.loop-digit.digit-index c.loop-digit.value c.from.result c.loop-digit-test.true c.loop-digit.invariant.value c.requires c.from.ensures in
    great_is_beyond c.args.digits.now (c.loop-digit.digit-index + 1) (c.loop-digit.value * 10 + c.from.result) c.args.high c.from-most.result more c.from-most.ensures c.if-value-most.true

pub loop-digit-preserved : goal.loop-digit-preserved
loop-digit-preserved c = record {
  value = value_more c.args.digits.now c.loop-digit.digit-index c.loop-digit.value c.from.result c.loop-digit-test.true c.loop-digit.invariant.value c.requires c.from.ensures;
  small = c.if-value-most.false;
}
