use Rattle.flat_model.specs.PathText.{read_path}
use Rattle.line_engine.proofs.GrammarPaths.{good_path}
use Rattle.line_engine.proofs.listing.read.Goals as goal

pub returns-in-Ok : goal.returns-in-Ok
returns-in-Ok c = good_path c.in-Ok.path (read_path c.args.text.now) c.in-Ok.ensures.first
