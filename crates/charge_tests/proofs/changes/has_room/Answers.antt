use Rattle.std.proofs.Common.{◌≡◌, [], true, sym, ap, ◌∙◌, arith}
use Rattle.std.proofs.lemmas.Bool.Decides.{nat_tests}
use Rattle.flat_model.specs.Counts.{is_group, descendant_count}
use Rattle.charge_tests.proofs.Groups.{len-groups}
use Rattle.charge_tests.proofs.changes.has_room.Goals as goal

pub returns-in-Some : goal.returns-in-Some
returns-in-Some g c =
    let there : is_group c.args.charges.now [] ≡ true = ap (is_group c.args.charges.now) (sym c.in_ok-root.ensures) ∙ sym c.in-Some.ensures.some in
    let size = len-groups c.args.charges.now there in
    let count : c.in-Some.below ≡ descendant_count c.args.charges.now [] = c.in-Some.ensures.count ∙ ap (descendant_count c.args.charges.now) c.in_ok-root.ensures in
    λ few. grind (arith, nat_tests, few, size, count, c.from.ensures, c.SLOTS.ensures)
