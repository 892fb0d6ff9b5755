use Rattle.flat_model.specs.PathText.{read_path}
use Rattle.trace_lines.proofs.Readings.{good_path}
use Rattle.trace_lines.proofs.commands.read_path.Goals as goal

pub returns-in-Ok : goal.returns-in-Ok
returns-in-Ok c = good_path c.in-Ok.path (read_path c.args.word.now) c.in-Ok.ensures.first
