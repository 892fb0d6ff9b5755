use Rattle.std.proofs.Common.{refl}
use Rattle.charge_laws.proofs.RunLaws.{each_part, eight_parts}
use Rattle.charge_laws.proofs.runs.parts_of_a_settlement.Goals as goal

pub returns : goal.returns
returns c = record { few = (refl, refl, refl); each = each_part; many = eight_parts }
