use Rattle.std.proofs.Common.{◌∙◌, IfOk, List, ap, subst}
use Rattle.std.specs.List.{flat_map}
use Rattle.flat_model.specs.Trace.{Line, read_trace}
use Rattle.replay_main.specs.Script.{AreScripts}
use Rattle.replay_main.proofs.ScriptLaws.{all_pieces}
use Rattle.replay_main.proofs.reading.read_scripts.Goals as goal

pub returns-clause-scripts : goal.returns-clause-scripts
returns-clause-scripts g c =
    let pieces = c.in_ok-pieces in
    subst (λ (lines : List Line). IfOk c.read_pieces.result (λ scripts. AreScripts scripts.items lines))
    (ap (λ ps. flat_map (λ piece. read_trace piece.now) ps) c.as_slice.ensures.value ∙ all_pieces (λ piece. piece.now) pieces.pieces.items c.args.trace.now pieces.ensures.lines)
    c.read_pieces.ensures.scripts
