use Rattle.std.proofs.Common.{sym, ◌∙◌}
use Rattle.group_tree.proofs.NameNumbers.{short_first, short_second, both_long}
use Rattle.group_tree.proofs.number.compare_behind.Goals as goal

pub returns-then-a-le8 : goal.returns-then-a-le8
returns-then-a-le8 c = c.cmp.ensures ∙ sym (short_first _ _ _ c.requires.1 c.requires.2 c.if-a-le8.true)

pub returns-then-b-le8 : goal.returns-then-b-le8
returns-then-b-le8 c = sym (short_second _ _ _ c.requires.1 c.requires.2 c.if-a-le8.false c.if-b-le8.true)

pub returns : goal.returns
returns c = c.compare_rests.ensures ∙ sym (both_long _ _ _ c.requires.1 c.requires.2 c.if-a-le8.false c.if-b-le8.false)
