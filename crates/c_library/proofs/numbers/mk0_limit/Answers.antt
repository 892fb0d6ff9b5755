use Rattle.std.proofs.Common.{subst, Option, rules}
use Rattle.line_engine.specs.declared.engine.LineEngine.{LineEngine}
use Rattle.flat_model.specs.PathText.{read_path}
use Rattle.line_engine.specs.Numbers.{pids_limit}
use Rattle.c_library.specs.Status.{TellsAt}
use Rattle.c_library.proofs.numbers.mk0_limit.Goals as goal

pub returns : goal.returns
returns c =
    subst (λ (o : Option LineEngine). TellsAt o pids_limit (read_path c.args.path.now) c.number_status.result c.number_value.result
    c.number_info.result c.put.new.self.seal.held) c.in-Some.ensures.taken
    (record { answer = c.limit-number.result; new_is = search rules; tells = search rules; status_is = c.number_status.ensures; value_is = c.number_value.ensures; info_is = c.number_info.ensures })
