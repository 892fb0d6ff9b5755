use Rattle.std.proofs.Common.{subst, Option, rules}
use Rattle.line_engine.specs.declared.engine.LineEngine.{LineEngine}
use Rattle.flat_model.specs.PathText.{read_path}
use Rattle.c_library.specs.Status.{FindsAt}
use Rattle.c_library.proofs.exports.mk0_has_group.Goals as goal

pub returns : goal.returns
returns c =
    subst (λ (o : Option LineEngine). FindsAt o (read_path c.args.path.now) c.found_status.result c.found_info.result c.put.new.self.seal.held) c.in-Some.ensures.taken
    (record { answer = c.has_group-found.result; new_is = search rules; tells = search rules; status_is = c.found_status.ensures; info_is = c.found_info.ensures })
