use Rattle.flat_model_laws.proofs.KillLaws.{nobody_left, others_stay, lost_are, lost_ascend}
use Rattle.flat_model_laws.proofs.states.kill_is_whole.Goals as goal

pub returns : goal.returns
returns c = record { nobody = nobody_left; others = others_stay; lost = lost_are; ascending = lost_ascend }
