use Rattle.flat_model.specs.Machine.{after_all}
use Rattle.flat_model.proofs.GroupCounts.{current_is, populated_is}
use Rattle.flat_model_laws.proofs.DescendantLaws.{descendants_are}
use Rattle.flat_model.proofs.Reachable.{tick_well, reached_well}
use Rattle.flat_model_laws.proofs.machine.reachable_is_exact.Goals as goal

pub returns : goal.returns
returns c = record {
  kept = tick_well;
  well_formed = reached_well;
  current = λ slots cs. current_is slots (after_all slots cs).state (reached_well slots cs).0;
  populated = λ slots cs. populated_is (after_all slots cs).state;
  descendants = λ slots cs. descendants_are slots (after_all slots cs).state (reached_well slots cs).0;
}
