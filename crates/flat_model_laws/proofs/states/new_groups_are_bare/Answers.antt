use Rattle.std.proofs.Common.{refl}
use Rattle.flat_model_laws.proofs.NewGroups.{root_bare, root_alone, first_process, made_bare, made_alone}
use Rattle.flat_model_laws.proofs.states.new_groups_are_bare.Goals as goal

pub returns : goal.returns
returns c = record {
  root = root_bare;
  root_alone = root_alone;
  process = first_process;
  made = made_bare;
  fresh = made_bare;
  others = made_alone;
  home = λ s p. refl;
}
