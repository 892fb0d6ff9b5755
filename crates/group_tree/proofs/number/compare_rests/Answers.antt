use Rattle.std.proofs.Common.{sym, ◌∙◌}
use Rattle.std.specs.Cmp.{Equal-is}
use Rattle.std.specs.Cmp.Lexicographic.{texts_ties}
use Rattle.flat_model.specs.Path.{name_cmp}
use Rattle.group_tree.proofs.number.compare_rests.Goals as goal

pub returns-then-eq : goal.returns-then-eq
returns-then-eq c = sym ((Equal-is (name_cmp c.args.a.now c.args.b.now)).0 (sym (c.if-eq.ensures ∙ texts_ties c.args.a.now c.args.b.now)))
