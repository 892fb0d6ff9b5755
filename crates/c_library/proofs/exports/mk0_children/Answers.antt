use Rattle.std.proofs.Common.{subst, Option, rules}
use Rattle.line_engine.specs.declared.engine.LineEngine.{LineEngine}
use Rattle.flat_model.specs.PathText.{read_path}
use Rattle.c_library.specs.Status.{ListsAt, TellsChildrenOf}
use Rattle.c_library.proofs.exports.mk0_children.Goals as goal

pub returns : goal.returns
returns c =
    subst (λ (o : Option LineEngine). ListsAt (TellsChildrenOf (read_path c.args.path.now)) o c.children-listing.new.out
    c.listing_status.result c.listing_info.result c.put.new.self.seal.held) c.in-Some.ensures.taken
    (record { answer = c.children-listing.result; new_is = search rules; answer_is = search rules; status_is = c.listing_status.ensures; info_is = c.listing_info.ensures })
