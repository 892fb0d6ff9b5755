use Rattle.flat_model.proofs.PathMembers.{prefixes_are, upward_are}
use Rattle.flat_model_laws.proofs.paths.ancestors_are_prefixes.Goals as goal

pub returns : goal.returns
returns c = record { prefixes = prefixes_are; upward = upward_are }
