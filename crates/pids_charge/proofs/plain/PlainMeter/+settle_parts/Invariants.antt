use Rattle.pids_charge.proofs.plain.PlainMeter.+settle_parts.Given as goal

abbrev pub decreases-settle_parts : goal.decreases-settle_parts
decreases-settle_parts g l = l.parts
