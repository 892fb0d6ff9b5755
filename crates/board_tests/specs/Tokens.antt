-- The content of a meter, as a list of tokens.
use Rattle.std.specs.Prelude.{◌≡◌, ℕ, ◌+◌, ◌-◌, List, length}
use Rattle.snzi_tokens.specs.declared.token.Token.{Token}
use Rattle.snzi_core.specs.declared.holding.Holding.{Holding}
use Rattle.snzi_tree.specs.Contents.{content_of}
use Rattle.snzi_tokens.specs.Listed.{listed_at}
use Rattle.pids_charge.specs.Content.{Content}
use Rattle.pids_charge.specs.declared.plain.TheConstants.{LEAVES}

-- the content of a meter over a board, whose trees have one node less than twice the number of leaves
abbrev pub board_content : Holding → Content
board_content h = content_of (LEAVES + LEAVES - 1) LEAVES h

-- there is one charge for each of the tokens
abbrev pub HoldsTokens : List Token → Content → ℕ → Type 0
HoldsTokens tokens at count = ((s j : ℕ) → at s j ≡ listed_at tokens s j) × (count ≡ length tokens)
