use Rattle.trace_lines.proofs.Actions.{cat_reads}
use Rattle.trace_lines.proofs.commands.read_cat.Goals as goal

pub returns : goal.returns
returns c = cat_reads c.args.rest c.in-Some.path.now c.in-Some.file.now c.read_path-path.result c.read_shown-action.result
    c.read_action.result c.in-Some.ensures c.read_path-path.ensures c.read_shown-action.ensures c.read_action.ensures
