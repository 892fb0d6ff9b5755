use Rattle.line_engine.proofs.FirstFault.{faultless_child, faulty_child}
use Rattle.line_engine.proofs.path_faults.is_faulty.Goals as goal

pub returns-in-Ok-child : goal.returns-in-Ok-child
returns-in-Ok-child c = faultless_child c.in-Ok.root c.args.name.now c.in-Ok-child.field-0 c.in-Ok.ensures c.in-Ok-child.ensures.first

pub returns : goal.returns
returns c = faulty_child c.in-Ok.root c.args.name.now c.in-Err.fault c.number_of.result c.in-Ok.ensures c.in-Err.ensures.first c.number_of.ensures
