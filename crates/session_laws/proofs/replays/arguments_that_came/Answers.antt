use Rattle.std.proofs.Common.{◌≡◌, ◌∙◌, length, sym}
use Rattle.std.specs.Iterator.{Drains}
use Rattle.std.specs.Vec.Iter.{into_iter_items, into_iter_len, into_iter_steps}
use Rattle.std.specs.declared.alloc.Global.{Global}
use Rattle.std.specs.declared.string.String.{String}
use Rattle.std.specs.declared.vec.IntoIter.{IntoIter}
use Rattle.std.specs.declared.vec.Vec.{Vec}
use Rattle.std.proofs.lemmas.Iterator.{items_from_drains}
use Rattle.std.proofs.lemmas.Iterator.Adapters.{YieldsList-from_vec}
use Rattle.std.proofs.lemmas.List.{map-id}
use Rattle.std.proofs.Common.{refl}
use Rattle.session_laws.proofs.replays.arguments_that_came.Goals as goal

came : (args : IntoIter (String Global) Global) (v : Vec (String Global) Global) → into_iter_len args ≡ length (into_iter_items args)
    → Drains into_iter_steps args v.items → v.items ≡ into_iter_items args
came args v len h = sym (map-id v.items) ∙ items_from_drains v.items (h.1.0, h.1.1, λ _. (h.0, h.1.2)) (YieldsList-from_vec (into_iter_items args) refl len)

pub returns-clause-exactly : goal.returns-clause-exactly
returns-clause-exactly c = came
