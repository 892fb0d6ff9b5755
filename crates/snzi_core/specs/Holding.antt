-- What a hand holds, and how an event changes it.
use Rattle.std.specs.Prelude.{ℕ, zero, suc, ◌+◌, ◌-◌, ◌%◌, ◌^◌, List, [], ◌∷◌, map, slice_index}
use Rattle.snzi_core.specs.declared.holding.Holding.{Holding}
use Rattle.snzi_core.specs.declared.holding.Role.{Role}
use Rattle.snzi_core.specs.declared.holding.Role.TheVariants.{Main, Helper, Spent}

-- the list with x at index i, padded with zeros if it is shorter
abbrev pub put : List ℕ → ℕ → ℕ → List ℕ
put [] zero x = x ∷ []
put [] (suc i) x = 0 ∷ put [] i x
put (y ∷ ys) zero x = x ∷ ys
put (y ∷ ys) (suc i) x = y ∷ put ys i x

-- the sum of a list
abbrev pub added : List ℕ → ℕ
added [] = 0
added (x ∷ xs) = x + added xs

-- two lists added, index by index
abbrev pub merged : List ℕ → List ℕ → List ℕ
merged [] ys = ys
merged (x ∷ xs) [] = x ∷ xs
merged (x ∷ xs) (y ∷ ys) = (x + y) ∷ merged xs ys

-- one list less another, index by index
abbrev pub without : List ℕ → List ℕ → List ℕ
without [] ys = []
without (x ∷ xs) [] = x ∷ xs
without (x ∷ xs) (y ∷ ys) = (x - y) ∷ without xs ys

-- each number modulo 2^64
abbrev pub wrapped : List ℕ → List ℕ
wrapped xs = map (λ x. x % 2 ^ 64) xs

abbrev pub tokens_at : ℕ → Holding → ℕ
tokens_at i h = slice_index h.tokens i

abbrev pub amount_at : ℕ → Holding → ℕ
amount_at i h = slice_index h.amounts i

-- all tokens of the hand
abbrev pub held : Holding → ℕ
held h = added h.tokens

-- one token more at the word i
abbrev pub gain : Holding → ℕ → Holding
gain h i = record { role = h.role; tokens = put h.tokens i (slice_index h.tokens i + 1); amounts = h.amounts }

-- one token less at the word i
abbrev pub lose : Holding → ℕ → Holding
lose h i = record { role = h.role; tokens = put h.tokens i (slice_index h.tokens i - 1); amounts = h.amounts }

-- n more in the stripe i
abbrev pub raise : Holding → ℕ → ℕ → Holding
raise h i n = record { role = h.role; tokens = h.tokens; amounts = put h.amounts i ((slice_index h.amounts i + n) % 2 ^ 64) }

-- a hand that holds nothing
abbrev pub empty : Role → Holding
empty r = record { role = r; tokens = []; amounts = [] }

abbrev pub main_weight : Role → ℕ
main_weight (Main n) = 1
main_weight Helper = 0
main_weight Spent = 0

abbrev pub helper_weight : Role → ℕ
helper_weight (Main n) = 0
helper_weight Helper = 1
helper_weight Spent = 0

-- how many helpers this hand has out
abbrev pub out : Role → ℕ
out (Main n) = n
out Helper = 0
out Spent = 0

abbrev pub one_out : Role → Role
one_out (Main n) = Main (n + 1)
one_out Helper = Helper
one_out Spent = Spent

abbrev pub one_back : Role → Role
one_back (Main n) = Main (n - 1)
one_back Helper = Helper
one_back Spent = Spent

-- main after a helper took this share
abbrev pub keeper : Holding → List ℕ → Holding
keeper h share = record { role = one_out h.role; tokens = without h.tokens share; amounts = h.amounts }

-- a helper with a share of tokens and these amounts
abbrev pub helper_with : List ℕ → List ℕ → Holding
helper_with share amounts = record { role = Helper; tokens = share; amounts = amounts }

-- main after a helper's tokens and amounts were added
abbrev pub rejoined : Holding → Holding → Holding
rejoined h k = record { role = one_back h.role; tokens = merged h.tokens k.tokens; amounts = wrapped (merged h.amounts k.amounts) }
