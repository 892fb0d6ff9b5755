use Rattle.std.proofs.Common.{refl}
use Rattle.flat_model.specs.PathText.{name_fault, path_fault}
use Rattle.flat_model_laws.proofs.examples.paths.paths_refused.Goals as goal

pub returns : goal.returns
unfolding name_fault path_fault
returns c = record {
  nothing = refl;
  no_slash = refl;
  empty_first = refl;
  empty_last = refl;
  long_name = refl;
  many_names = refl;
  dots = refl;
  of_a_file = refl;
  tab = refl;
  long_text = refl;
}
