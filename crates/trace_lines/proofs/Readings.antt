-- What a word of a line says.
use Rattle.std.proofs.Common.{◌≡◌, ap, sym, Result, Ok, Err}
use Rattle.flat_model.specs.Refuse.{or_fault}
use Rattle.flat_model.specs.Path.{Path}
use Rattle.flat_model.specs.PathText as grammar
use Rattle.flat_model.specs.Trace.{BadPath}
use Rattle.group_path.specs.FollowsGrammar.{FollowsGrammar}

pub good_path : (path : Path) (m : Result Path grammar.PathFault) → FollowsGrammar (Ok path) m → or_fault BadPath m ≡ Ok path
good_path path (Ok q) h = ap Ok (sym h)
good_path path (Err f) h = cc
