use Rattle.std.proofs.Common.{refl}
use Rattle.flat_model.specs.Values.{number_fault}
use Rattle.flat_model_laws.proofs.examples.values.pids_max_values.Goals as goal

pub returns : goal.returns
unfolding number_fault
returns c = record {
  no_limit = refl;
  blanks_dropped = refl;
  least = refl;
  greatest = refl;
  past_it = refl;
  leading_zero = refl;
  hexadecimal = refl;
  sign = refl;
  capitals = refl;
  nothing = refl;
}
