-- What contracts say about a hand.
use Rattle.std.specs.Prelude.{◌≡◌, ◌≢◌, ℕ, ◌+◌, ◌-◌, ◌^◌, min}
use Rattle.snzi_core.specs.declared.holding.Holding.{Holding}
use Rattle.snzi_core.specs.declared.holding.Role.TheVariants.{Main, Helper}
use Rattle.snzi_core.specs.Holding.{main_weight}
use Rattle.snzi_core.specs.Shape.{line, parent, stripe}
use Rattle.snzi_tree.specs.declared.board.Board.{Board}
use Rattle.snzi_tree.specs.declared.board.Hand.{Hand}

-- what the hand holds
abbrev pub holds : Hand → Holding
holds hand = hand.seat.me.0.view.holding

-- how many events the hand has done, and how many were done by the hands that it has joined
abbrev pub own_events : Hand → ℕ
own_events hand = hand.seat.me.0.own

abbrev pub joined_events : Hand → ℕ
joined_events hand = hand.seat.me.0.joined

-- the hand belongs to this board
abbrev pub IsHandOf : {G W L : ℕ} → Board G W L → Hand → Type 0
IsHandOf board hand = hand.seat.table_id ≡ board.table.shared.table_id

-- the same hand of the same board
abbrev pub SameHand : Hand → Hand → Type 0
SameHand a b = (b.seat.table_id ≡ a.seat.table_id) × (b.seat.id ≡ a.seat.id)

-- the main hand; main with no helper out; a helper
abbrev pub IsMain : Hand → Type 0
IsMain hand = main_weight (holds hand).role ≡ 1

abbrev pub IsAlone : Hand → Type 0
IsAlone hand = (holds hand).role ≡ Main 0

abbrev pub IsHelper : Hand → Type 0
IsHelper hand = (holds hand).role ≡ Helper

-- n plus k steps, but at most the greatest u64
abbrev pub counted : ℕ → ℕ → ℕ
counted n k = min (n + k) (2 ^ 64 - 1)

-- the word is a node's
abbrev pub IsNodeWord : ℕ → ℕ → ℕ → Type 0
IsNodeWord w l i = line w (w + l) i ≢ stripe

abbrev pub IsStripeWord : ℕ → ℕ → ℕ → Type 0
IsStripeWord w l i = line w (w + l) i ≡ stripe

abbrev pub above : ℕ → ℕ → ℕ → ℕ
above w l i = parent w (w + l) i

abbrev pub IsRootWord : ℕ → ℕ → ℕ → Type 0
IsRootWord w l i = above w l i ≡ i
