use Rattle.hierarchy_laws.proofs.FaultLaws.{passed_is, tested_is, tests_take_none}
use Rattle.hierarchy_laws.proofs.paths.tests_follow_the_grammar.Goals as goal

pub returns : goal.returns
returns c = record {
  passed = passed_is;
  fault = tested_is;
  memory = tests_take_none;
}
