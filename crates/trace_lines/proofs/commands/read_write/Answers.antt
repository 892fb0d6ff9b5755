use Rattle.trace_lines.proofs.Actions.{write_reads}
use Rattle.trace_lines.proofs.commands.read_write.Goals as goal

pub returns : goal.returns
returns c = write_reads c.args.rest c.in-Some.path.now c.in-Some.file.now c.in-Some.value.now c.read_path-path.result
    c.read_written-action.result c.read_action.result c.in-Some.ensures c.read_path-path.ensures c.read_written-action.ensures
    c.read_action.ensures
