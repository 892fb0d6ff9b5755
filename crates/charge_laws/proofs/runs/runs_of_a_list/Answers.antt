use Rattle.charge_laws.proofs.RunLaws.{cut_is, many_are, even_are}
use Rattle.charge_laws.proofs.runs.runs_of_a_list.Goals as goal

pub returns : goal.returns
returns c = record { cut = cut_is; many = many_are; even = even_are }
