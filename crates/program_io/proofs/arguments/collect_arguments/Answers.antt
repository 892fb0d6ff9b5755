use Rattle.std.proofs.Common.{List, Ok, sym, subst}
use Rattle.std.specs.Iterator.{Drains}
use Rattle.std.specs.Vec.Iter.{into_iter_steps}
use Rattle.std.specs.declared.alloc.Global.{Global}
use Rattle.std.specs.declared.string.String.{String}
use Rattle.program_io.specs.Arguments.{Collects}
use Rattle.program_io.proofs.arguments.collect_arguments.Goals as goal

pub returns-in-Ok-collect : goal.returns-in-Ok-collect
returns-in-Ok-collect c =
    let ran = c.in-Ok-collect.ensures.ran in
    let ends = ran.1.2 tt in
    subst (λ args. Collects args (Ok c.in-Ok-collect.args)) (sym c.in-Ok.is)
    (subst (λ (items : List (String Global)). Drains into_iter_steps c.in-Ok.args items) (sym ran.2.0) (ends.0, (ran.1.0, ran.1.1, ends.1)))
