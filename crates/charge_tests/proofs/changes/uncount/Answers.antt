use Rattle.std.proofs.Common.{◌≡◌, ◌<◌, Some, sym, ap, ◌∙◌, option_map, option_copied, arith}
use Rattle.std.specs.FinMap.{get}
use Rattle.std.proofs.lemmas.Bool.Decides.{nat_tests}
use Rattle.group_tree.specs.Flat.{group_of}
use Rattle.charge_tests.proofs.CallBounds.{has_events, up_uncounted}
use Rattle.charge_tests.proofs.changes.uncount.Goals as goal

pub uncount-requires : goal.uncount-requires
uncount-requires g c =
    let is : get c.args.charges.now.groups c.args.path.now ≡ Some (group_of c.in-Some.attr.now) = sym c.attr.ensures ∙ ap (λ o. option_map group_of (option_copied o)) c.in-Some.is in
    let local : 0 < c.in-Some.attr.now.local = grind (arith, nat_tests, c.min-counted.ensures, c.if-counted-eq0.false) in
    let total : 0 < c.in-Some.attr.now.total = grind (arith, nat_tests, c.min-counted.ensures, c.if-counted-eq0.false) in
    has_events c.args.charges.now c.args.path.now (group_of c.in-Some.attr.now) (grind (arith, nat_tests, c.depth.ensures, c.if-depth-ne1.false)) is local total

pub returns : goal.returns
returns g c = record { up = λ n h. up_uncounted n c.args.charges.now c.uncount.new.self c.args.path.now h c.uncount.ensures }
