-- A path that was read is the one that the grammar gives.
use Rattle.std.proofs.Common.{◌≡◌, Result, Ok, Err, sym, ap}
use Rattle.flat_model.specs.Path.{Path}
use Rattle.flat_model.specs.PathText as grammar
use Rattle.group_path.specs.FollowsGrammar.{FollowsGrammar}

pub good_path : (p : Path) (m : Result Path grammar.PathFault) → FollowsGrammar (Ok p) m → m ≡ Ok p
good_path p (Ok q) h = ap (λ (x : Path). Ok x) (sym h)
good_path p (Err f) h = cc
