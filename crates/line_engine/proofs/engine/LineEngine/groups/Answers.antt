use Rattle.std.proofs.Common.{rules, ◌≡◌, [], length, subst}
use Rattle.flat_model.specs.Path.{Path}
use Rattle.line_engine.specs.Listings.{TellsAll, paths_bytes, subtree}
use Rattle.line_engine.proofs.engine.LineEngine.groups.Goals as goal

pub returns : goal.returns
returns c =
    let s = c.args.self.now.engine.machine.state in
    let root : c.in-Ok.root ≡ [] = search rules in
    subst (λ (p : Path). TellsAll (paths_bytes (subtree s p)) (length (subtree s p)) c.subtree_from.new.out c.subtree_from.result) root c.subtree_from.ensures
