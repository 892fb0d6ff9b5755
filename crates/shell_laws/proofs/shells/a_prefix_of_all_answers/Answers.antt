use Rattle.shell_laws.proofs.OutputPrefixes.{written_prefix}
use Rattle.shell_laws.proofs.shells.a_prefix_of_all_answers.Goals as goal

pub returns : goal.returns
returns c = λ history start before source sink r s.
    let p = written_prefix r history start before source sink s in
    (p.front, p.more, p.whole, p.is)
