-- A run of no events leaves main with nothing.
use Rattle.std.proofs.Common.{◌≡◌, ℕ, zero, suc, List, [], ◌∷◌, sym, ap, ◌∙◌, arith}
use Rattle.snzi_core.specs.declared.event.Event.{Event}
use Rattle.snzi_core.specs.declared.holding.Holding.{Holding}
use Rattle.snzi_core.specs.Holding.{tokens_at, amount_at}
use Rattle.snzi_core.specs.CoreState.{CoreState as Core, hand_of, size}
use Rattle.snzi_core.proofs.Start.{zeros}
use Rattle.snzi_tree.specs.Ended.{HasEnded}

pub nothing : (g w l : ℕ) (h : Holding) → HasEnded g w l 0 h → (i : ℕ) → (tokens_at i h ≡ 0) × (amount_at i h ≡ 0)
nothing g w l h ([], k, comes, long, alone, tells) i = (
  sym (alone.0.1 i).0 ∙ ap (λ (c : Core). tokens_at i (hand_of c 0)) comes ∙ zeros (size g w) i,
  sym (alone.0.1 i).1 ∙ ap (λ (c : Core). amount_at i (hand_of c 0)) comes ∙ zeros (size g w) i,
)
nothing g w l h (e ∷ es, k, comes, long, alone, tells) i = absurd (omega (arith, long))
