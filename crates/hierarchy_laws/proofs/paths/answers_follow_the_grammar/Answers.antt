use Rattle.hierarchy_laws.proofs.FaultLaws.{found_is, fault_is, memory_is}
use Rattle.hierarchy_laws.proofs.paths.answers_follow_the_grammar.Goals as goal

pub returns : goal.returns
returns c = record {
  found = found_is;
  fault = fault_is;
  memory = memory_is;
}
