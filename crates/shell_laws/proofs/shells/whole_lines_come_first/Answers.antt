use Rattle.flat_model.specs.Trace.{read_trace}
use Rattle.trace_talk.specs.Points.{start_point}
use Rattle.shell_main.specs.Forgetful.{after_by, answers_by}
use Rattle.shell_laws.proofs.OutputPrefixes.{output_cut}
use Rattle.shell_laws.proofs.shells.whole_lines_come_first.Goals as goal

pub returns : goal.returns
returns c = λ history lines more e. (answers_by history (after_by history start_point (read_trace lines)) (read_trace more), output_cut history lines more e)
