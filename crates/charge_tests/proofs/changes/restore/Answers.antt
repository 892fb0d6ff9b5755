use Rattle.std.proofs.Common.{◌≡◌, ◌≤◌, Some, sym, ap, ◌∙◌, option_map, option_copied, arith}
use Rattle.std.specs.FinMap.{get}
use Rattle.std.proofs.lemmas.Bool.Decides.{nat_tests}
use Rattle.group_tree.specs.Flat.{group_of}
use Rattle.charge_tests.proofs.CallBounds.{up_restored}
use Rattle.charge_tests.proofs.changes.restore.Goals as goal

pub returns : goal.returns
returns g c =
    let is : get c.args.charges.now.groups c.in-Some.above ≡ Some (group_of c.in-Some-attr.parent.now) = sym c.attr.ensures ∙ ap (λ o. option_map group_of (option_copied o)) c.in-Some-attr.is in
    let local : c.args.attr.local ≤ c.in-Some-attr.parent.now.total = grind (arith, nat_tests, c.max.ensures, c.if-max-parent.false) in
    let total : c.args.attr.total ≤ c.in-Some-attr.parent.now.total = grind (arith, nat_tests, c.max.ensures, c.if-max-parent.false) in
    record {
      up = λ n h. up_restored n c.args.charges.now c.restore.new.self c.args.path.now c.in-Some.above (group_of c.args.attr)
          (group_of c.in-Some-attr.parent.now) c.restore.result h is local total c.restore.ensures.restored c.restore.ensures.kept;
    }
