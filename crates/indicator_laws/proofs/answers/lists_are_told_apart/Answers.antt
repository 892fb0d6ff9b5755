use Rattle.indicator_laws.proofs.EventRuns.{runs_one, stops_one, stops_memory, stops_first, stops_inside}
use Rattle.indicator_laws.proofs.answers.lists_are_told_apart.Goals as goal

pub returns : goal.returns
returns c = record { runs = runs_one; stops = stops_one; lawful = stops_memory; first = stops_first; inside = stops_inside }
