-- Small cores, written out, for which the refusals are computed.
use Rattle.std.specs.Prelude.{ℕ, List, [], ◌∷◌}
use Rattle.snzi_core.specs.declared.event.At.{At}
use Rattle.snzi_tokens.specs.declared.token.Token.{Token}
use Rattle.snzi_core.specs.declared.holding.Holding.{Holding}
use Rattle.snzi_core.specs.declared.holding.Role.TheVariants.{Main, Helper}
use Rattle.snzi_core.specs.CoreState.{CoreState}

-- one slot of three nodes and two stripes: main has n helpers out and these tokens, and hand 1 is a helper with those
abbrev pub core : List ℕ → ℕ → List ℕ → List ℕ → CoreState
core words n mine theirs = record {
  slots = 1;
  nodes = 3;
  words = words;
  hands = record { role = Main n; tokens = mine; amounts = 0 ∷ 0 ∷ 0 ∷ 0 ∷ 0 ∷ [] } ∷ record { role = Helper; tokens = theirs; amounts = 0 ∷ 0 ∷ 0 ∷ 0 ∷ 0 ∷ [] } ∷ [];
}

abbrev pub at : ℕ → ℕ → At
at slot node = record { slot = slot; node = node }

abbrev pub token : ℕ → ℕ → Token
token slot leaf = record { slot = slot; leaf = leaf }

-- as many tokens as one hand may have at a node
abbrev pub full : ℕ
full = 1099511627776

-- main and the helper have as many tokens at each node as the cap, and no more helpers may be out; with all words zero, and with all words 1
abbrev pub crowded : CoreState
crowded = core (0 ∷ 0 ∷ 0 ∷ 0 ∷ 0 ∷ []) 65535 (full ∷ full ∷ full ∷ 0 ∷ 0 ∷ []) (full ∷ full ∷ full ∷ 0 ∷ 0 ∷ [])

abbrev pub filled : CoreState
filled = core (1 ∷ 1 ∷ 1 ∷ 0 ∷ 0 ∷ []) 65535 (full ∷ full ∷ full ∷ 0 ∷ 0 ∷ []) (full ∷ full ∷ full ∷ 0 ∷ 0 ∷ [])

-- main may have one more token at each node, and one more helper may be out; the helper has a token at each leaf
abbrev pub roomy : CoreState
roomy = core (1 ∷ 1 ∷ 1 ∷ 0 ∷ 0 ∷ []) 65534 (1099511627775 ∷ 1099511627775 ∷ 1099511627775 ∷ 0 ∷ 0 ∷ []) (0 ∷ 1 ∷ 1 ∷ 0 ∷ 0 ∷ [])

-- main with n helpers out
abbrev pub main_with : ℕ → List ℕ → List ℕ → Holding
main_with n tokens amounts = record { role = Main n; tokens = tokens; amounts = amounts }

-- two slots of three nodes and two stripes each: main has a token at the first leaf of the first slot; main and a helper have amounts in the stripes
abbrev pub paid : CoreState
paid = record {
  slots = 2;
  nodes = 3;
  words = 1 ∷ 1 ∷ 0 ∷ 6 ∷ 9 ∷ 0 ∷ 0 ∷ 0 ∷ 100 ∷ 200 ∷ [];
  hands = main_with 1 (0 ∷ 1 ∷ []) (0 ∷ 0 ∷ 0 ∷ 5 ∷ 7 ∷ 0 ∷ 0 ∷ 0 ∷ 100 ∷ 0 ∷ [])
      ∷ record { role = Helper; tokens = []; amounts = 0 ∷ 0 ∷ 0 ∷ 1 ∷ 2 ∷ 0 ∷ 0 ∷ 0 ∷ 0 ∷ 200 ∷ [] } ∷ [];
}
