use Rattle.std.proofs.Common.{subst, Option, rules}
use Rattle.line_engine.specs.declared.engine.LineEngine.{LineEngine}
use Rattle.c_library.specs.Status.{ListsAt, TellsHistoryOf}
use Rattle.c_library.proofs.exports.mk0_history.Goals as goal

pub returns : goal.returns
returns c =
    subst (λ (o : Option LineEngine). ListsAt (TellsHistoryOf c.args.from) o c.history-listing.new.out c.listing_status.result c.listing_info.result c.put.new.self.seal.held) c.in-Some.ensures.taken
    (record { answer = c.history-listing.result; new_is = search rules; answer_is = search rules; status_is = c.listing_status.ensures; info_is = c.listing_info.ensures })
