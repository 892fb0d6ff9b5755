use Rattle.std.proofs.Common.{arith}
use Rattle.flat_model.specs.Trace.{read_trace}
use Rattle.replay_main.proofs.RunJoins.{ok_gives}
use Rattle.replay_main.proofs.ScriptLaws.{are_scripts}
use Rattle.replay_main.proofs.reading.read_pieces.Goals as goal

pub returns-clause-scripts : goal.returns-clause-scripts
returns-clause-scripts g c =
    let many = c.requires.pieces in
    ok_gives c.in_runs.result _ _ c.in_runs.ensures
    (λ v run. are_scripts v.items (λ piece. read_trace piece.now) c.args.pieces.now c.args.workers (omega (arith, many)) run (λ i s lt p. p))
