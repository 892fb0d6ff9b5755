-- What a hand holds for a meter: tokens at leaves, and amounts in the stripes.
use Rattle.std.specs.Prelude.{◌≡◌, ℕ, ◌+◌, ◌-◌, ◌*◌, ◌%◌, ◌^◌, ◌<◌, ◌≤◌, List, length}
use Rattle.snzi_core.specs.declared.holding.Holding.{Holding}
use Rattle.snzi_core.specs.declared.holding.Role.TheVariants.{Main}
use Rattle.snzi_tokens.specs.declared.token.Token.{Token}
use Rattle.snzi_core.specs.Caps.{token_cap, helper_cap}
use Rattle.snzi_core.specs.Holding.{held, out, main_weight, one_out, one_back}
use Rattle.snzi_tree.specs.Contents.{content_of, tokens_in, amount_in, AtLeaves}
use Rattle.snzi_tokens.specs.Listed.{IsWithin, listed_at}
use Rattle.pids_charge.specs.declared.meter.TheConstants.{HELD_MAX}

-- the hand's amounts at a slot less its tokens there, modulo 2^64
abbrev pub excess : ℕ → ℕ → Holding → ℕ → ℕ
excess w l h s = (amount_in w l h s + (2 ^ 64 - 1) * tokens_in w l h s) % 2 ^ 64

-- what a charge keeps: amounts match tokens, and tokens are at leaves
pub record InStep (w l : ℕ) (h k : Holding) : Type 0 where
  pub excess : (s : ℕ) → excess w l k s ≡ excess w l h s
  pub at_leaves : AtLeaves w l h → AtLeaves w l k
  pub role : k.role ≡ h.role

-- the hand has the leaving tokens, and room for the arriving ones
pub record CanSettle (g w l stripe : ℕ) (leaving arriving : List Token) (h : Holding) : Type 0 where
  pub leaving_within : IsWithin g l leaving
  pub arriving_within : IsWithin g l arriving
  pub stripe_below : stripe < l
  pub charged : (s j : ℕ) → listed_at leaving s j ≤ content_of w l h s j
  pub room : held h + length arriving ≤ HELD_MAX

-- k is the hand h with the arriving tokens instead of the leaving ones, and with its amounts to match
pub record Settled (w l : ℕ) (leaving arriving : List Token) (h k : Holding) : Type 0 where
  pub content : (s j : ℕ) → content_of w l k s j + listed_at leaving s j ≡ content_of w l h s j + listed_at arriving s j
  pub held : held k + length leaving ≡ held h + length arriving
  pub in_step : InStep w l h k

-- main may have this many more helpers
abbrev pub HasRoomForHelpers : ℕ → Holding → Type 0
HasRoomForHelpers helpers h = (main_weight h.role ≡ 1) × (out h.role + helpers ≤ helper_cap)

-- the hand h is split: k has the share, and m the rest
pub record CutOff (w l : ℕ) (share : List Token) (h m k : Holding) : Type 0 where
  pub given : (s j : ℕ) → content_of w l k s j ≡ listed_at share s j
  pub left : (s j : ℕ) → content_of w l m s j + listed_at share s j ≡ content_of w l h s j
  pub held_given : held k ≡ length share
  pub held_left : held m + length share ≡ held h
  pub excess : (s : ℕ) → (excess w l m s + excess w l k s) % 2 ^ 64 ≡ excess w l h s
  pub at_leaves : AtLeaves w l k
  pub at_leaves_left : AtLeaves w l h → AtLeaves w l m
  pub role : m.role ≡ one_out h.role

-- z has what the hands m and k have together
pub record PutTogether (w l : ℕ) (m k z : Holding) : Type 0 where
  pub content : (s j : ℕ) → content_of w l z s j ≡ content_of w l m s j + content_of w l k s j
  pub held : held z ≡ held m + held k
  pub excess : (s : ℕ) → excess w l z s ≡ (excess w l m s + excess w l k s) % 2 ^ 64
  pub at_leaves : AtLeaves w l m → AtLeaves w l k → AtLeaves w l z
  pub role : z.role ≡ one_back m.role

-- what main holds between a meter's calls: no helper is out, tokens are at leaves, and the stripes of each slot add up to
-- its tokens modulo 2^64
pub record IsMeter (w l : ℕ) (h : Holding) : Type 0 where
  pub alone : h.role ≡ Main 0
  pub few : held h ≤ token_cap
  pub at_leaves : AtLeaves w l h
  pub level : (s : ℕ) → excess w l h s ≡ 0
