use Rattle.std.proofs.Common.{◌≡◌, ◌∙◌, refl, ℕ, List, Bor}
use Rattle.std.proofs.lemmas.Iterator.Consumers.{YieldsList-from_first}
use Rattle.std.proofs.lemmas.Iterator.Search.{cmp_from_yields_List}
use Rattle.flat_model.specs.Path.{Path, name_cmp}
use Rattle.group_path.proofs.order.GroupPathOrd.cmp.Goals as goal

pub returns : goal.returns
returns g c =
    cmp_from_yields_List (λ x y. y ≡ x) c.names-2.result name_cmp c.cmp.result c.cmp.ensures.ran
    (YieldsList-from_first (λ (name : Bor (List ℕ)). name.now) (λ (names : Path). names) c.args.self.now c.names.ensures)
    (λ it is. YieldsList-from_first (λ (name : Bor (List ℕ)). name.now) (λ (names : Path). names) c.args.other.now (is ∙ c.names-2.ensures))
    (λ x y. refl)
