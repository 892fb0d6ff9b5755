-- A meter that holds what it held.
use Rattle.std.proofs.Common.{◌≡◌, ℕ, List, ◌∙◌, ap}
use Rattle.snzi_tokens.specs.declared.token.Token.{Token}
use Rattle.pids_charge.specs.Content.{Content}
use Rattle.board_tests.specs.Tokens.{HoldsTokens}

pub holds_still : (tokens : List Token) (f g : Content) (n m : ℕ) → g ≡ f → m ≡ n → HoldsTokens tokens f n → HoldsTokens tokens g m
holds_still tokens f g n m same count h = (λ s j. ap (λ (x : Content). x s j) same ∙ h.0 s j, count ∙ h.1)
