use Rattle.board_meter.proofs.parts.+settle_in.Given as goal

abbrev pub decreases-settle_in : goal.decreases-settle_in
decreases-settle_in g l = l.parts
