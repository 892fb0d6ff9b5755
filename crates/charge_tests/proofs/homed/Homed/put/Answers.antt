use Rattle.std.proofs.Common.{◌≡◌, ◌<◌, [], length, get_or, ap, ◌∙◌, arith}
use Rattle.std.proofs.lemmas.List.{get_or_read}
use Rattle.process_table.specs.declared.process.Process.{Process}
use Rattle.charge_tests.proofs.OneHome.{put_homed}
use Rattle.charge_tests.proofs.homed.Homed.put.Goals as goal

pub invariant_of-self-2 : goal.invariant_of-self-2
invariant_of-self-2 g c =
    let homes = c.args.self.now.homes in
    let x : Process g.row.A.Denot = record { home = c.in_ok-home.home; row = c.args.row; leaf = c.args.leaf } in
    let within : c.from-at.result < length homes.items = omega (arith, c.len.ensures, homes.ok) in
    let here : x.home ≡ get_or homes.items c.args.row [] = c.in_ok-home.ensures
    ∙ get_or_read homes.items c.from-at.result c.index.result.now within c.index.ensures []
    ∙ ap (λ n. get_or homes.items n []) c.from-at.ensures in
    record { homed = put_homed homes.items c.args.self.now.table c.insert.new.self c.args.pid x c.args.self.now.homed here c.insert.result c.insert.ensures.entries c.insert.ensures.kept }
