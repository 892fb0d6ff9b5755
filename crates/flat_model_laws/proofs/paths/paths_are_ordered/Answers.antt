use Rattle.flat_model.proofs.PathLaws.{name_cmp-IsTotalOrder, name_cmp-IsAntisymmetric, path_cmp-IsTotalOrder, path_cmp-IsAntisymmetric, same_name_is, same_path_is}
use Rattle.flat_model_laws.proofs.paths.paths_are_ordered.Goals as goal

pub returns : goal.returns
returns c = record {
  names = name_cmp-IsTotalOrder;
  names_exactly = name_cmp-IsAntisymmetric;
  paths = path_cmp-IsTotalOrder;
  paths_exactly = path_cmp-IsAntisymmetric;
  name_test = same_name_is;
  path_test = same_path_is;
}
