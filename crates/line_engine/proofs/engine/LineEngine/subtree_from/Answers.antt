use Rattle.std.proofs.Common.{rules}
use Rattle.line_engine.proofs.GroupsBelow.{told_paths}
use Rattle.line_engine.proofs.engine.LineEngine.subtree_from.Goals as goal

pub returns : goal.returns
returns c =
    told_paths c.args.self.now.engine.machine.state c.charges.result.now c.args.path.now c.new-bytes.result.items c.gather_groups.new.bytes.items
    c.as_slice.result.now c.put_listing.new.out c.in-Ok.count c.put_listing.result
    (search rules) (search rules) c.in-Ok.ensures.bytes c.in-Ok.ensures.count c.as_slice.ensures.value c.put_listing.ensures
