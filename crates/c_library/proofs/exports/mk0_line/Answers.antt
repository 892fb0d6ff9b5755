use Rattle.std.proofs.Common.{subst, Option, rules}
use Rattle.line_engine.specs.declared.engine.LineEngine.{LineEngine}
use Rattle.flat_model.specs.Trace.{read_line}
use Rattle.c_library.specs.Status.{AnswersAt}
use Rattle.c_library.proofs.exports.mk0_line.Goals as goal

pub returns : goal.returns
returns c =
    subst (λ (o : Option LineEngine). AnswersAt o c.args.number (read_line c.args.line.now) c.answer-answer.new.out c.status_of.result
    c.info_of.result c.put.new.self.seal.held) c.in-Some.ensures.taken
    (record { engine = c.answer-answer.new.self; answer = c.answer-answer.result; new_is = search rules; answers = search rules; status_is = c.status_of.ensures; info_is = c.info_of.ensures })
