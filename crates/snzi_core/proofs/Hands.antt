-- What gain, lose and raise change in a hand, word by word.
use Rattle.std.proofs.Common.{◌≡◌, ◌≢◌, ℕ, ◌+◌, ◌-◌, ◌%◌, ◌^◌, ◌<◌, ◌≤◌, List, length, set, get_or, sym, refl, ap, ◌∙◌, arith}
use Rattle.std.specs.Prelude.{slice_index}
use Rattle.snzi_core.specs.declared.holding.Holding.{Holding}
use Rattle.snzi_core.specs.declared.holding.Role.{Role}
use Rattle.snzi_core.specs.declared.holding.Role.TheVariants.{Helper}
use Rattle.snzi_core.specs.Holding.{tokens_at, amount_at, held, gain, lose, raise, put, keeper, helper_with, rejoined, merged, main_weight}
use Rattle.snzi_core.specs.Changes.{Gains, Loses, Moves, Raises, Parts, Unites}
use Rattle.snzi_core.proofs.NumberLists.{at_put_same, at_put_else, added_put, at_within, put_inside, read_inside, at_without, at_merged}
use Rattle.snzi_core.proofs.TableRewrites.{at_wrapped}

pub gain_at : (h : Holding) (j : ℕ) → tokens_at j (gain h j) ≡ tokens_at j h + 1
gain_at h j = at_put_same h.tokens j (slice_index h.tokens j + 1)

pub gain_else : (h : Holding) (j i : ℕ) → i ≢ j → tokens_at i (gain h j) ≡ tokens_at i h
gain_else h j i apart = at_put_else h.tokens j i (slice_index h.tokens j + 1) apart

pub gain_held : (h : Holding) (j : ℕ) → held (gain h j) ≡ held h + 1
gain_held h j = let e = added_put h.tokens j (slice_index h.tokens j + 1) in omega arith

pub lose_at : (h : Holding) (j : ℕ) → tokens_at j (lose h j) ≡ tokens_at j h - 1
lose_at h j = at_put_same h.tokens j (slice_index h.tokens j - 1)

pub lose_else : (h : Holding) (j i : ℕ) → i ≢ j → tokens_at i (lose h j) ≡ tokens_at i h
lose_else h j i apart = at_put_else h.tokens j i (slice_index h.tokens j - 1) apart

pub lose_held : (h : Holding) (j : ℕ) → 0 < tokens_at j h → held (lose h j) + 1 ≡ held h
lose_held h j have = let e = added_put h.tokens j (slice_index h.tokens j - 1) in omega arith

-- the parent's token is used up for one below
pub swap_held : (h : Holding) (j p : ℕ) → p ≢ j → 0 < tokens_at p h → held (lose (gain h j) p) ≡ held h
swap_held h j p apart have =
    let a = added_put h.tokens j (slice_index h.tokens j + 1) in
    let e = at_put_else h.tokens j p (slice_index h.tokens j + 1) apart in
    let t = put h.tokens j (slice_index h.tokens j + 1) in
    let b = added_put t p (slice_index t p - 1) in omega arith

-- a token goes up to the parent
pub pass_held : (h : Holding) (j p : ℕ) → 0 < tokens_at j h → held (gain (lose h j) p) ≡ held h
pass_held h j p have =
    let a = added_put h.tokens j (slice_index h.tokens j - 1) in
    let t = put h.tokens j (slice_index h.tokens j - 1) in
    let b = added_put t p (slice_index t p + 1) in omega arith

pub gains : (h : Holding) (j : ℕ) → Gains j h (gain h j)
gains h j = (gain_at h j, gain_else h j, gain_held h j, refl, refl)

pub loses : (h : Holding) (j : ℕ) → 0 < tokens_at j h → Loses j h (lose h j)
loses h j have = (let a = lose_at h j in omega arith, lose_else h j, lose_held h j have, refl, refl)

pub moves_down : (h : Holding) (j p : ℕ) → p ≢ j → 0 < tokens_at p h → Moves p j h (lose (gain h j) p)
moves_down h j p apart have = (
  let a = lose_else (gain h j) p j (λ e. apart (sym e)) in let b = gain_at h j in omega arith,
  let a = lose_at (gain h j) p in let b = gain_else h j p apart in omega arith,
  (λ i off ne. lose_else (gain h j) p i ne ∙ gain_else h j i off),
  swap_held h j p apart have,
  refl,
  refl,
)

pub moves_up : (h : Holding) (j p : ℕ) → p ≢ j → 0 < tokens_at j h → Moves j p h (gain (lose h j) p)
moves_up h j p apart have = (
  let a = gain_at (lose h j) p in let b = lose_else h j p apart in omega arith,
  let a = gain_else (lose h j) p j (λ e. apart (sym e)) in let b = lose_at h j in omega arith,
  (λ i off ne. gain_else (lose h j) p i off ∙ lose_else h j i ne),
  pass_held h j p have,
  refl,
  refl,
)

pub raises : (h : Holding) (j n : ℕ) → Raises j n h (raise h j n)
raises h j n = (
  let a = at_put_same h.amounts j ((slice_index h.amounts j + n) % 18446744073709551616) in
      omega arith,
  (λ i apart. at_put_else h.amounts j i ((slice_index h.amounts j + n) % 18446744073709551616) apart),
  refl,
  refl,
)

-- a hand's tokens in all bound those at one node
pub at_held : (h : Holding) (i : ℕ) → tokens_at i h ≤ held h
at_held h i = at_within h.tokens i

abbrev holding : Role → List ℕ → List ℕ → Holding
holding r tokens amounts = record { role = r; tokens = tokens; amounts = amounts }

-- a write to the table of a hand, where the table has the word
pub gained : (r : Role) (ts ns : List ℕ) (i x : ℕ) → i < length ts → x ≡ get_or ts i x → holding r (set ts i (x + 1)) ns ≡ gain (holding r ts ns) i
gained r ts ns i x h e = ap (λ (l : List ℕ). holding r l ns) (ap (λ (y : ℕ). set ts i (y + 1)) (e ∙ read_inside ts i x 0 h) ∙ sym (put_inside ts i (slice_index ts i + 1) h))

pub lost : (r : Role) (ts ns : List ℕ) (i x : ℕ) → i < length ts → x ≡ get_or ts i x → holding r (set ts i (x - 1)) ns ≡ lose (holding r ts ns) i
lost r ts ns i x h e = ap (λ (l : List ℕ). holding r l ns) (ap (λ (y : ℕ). set ts i (y - 1)) (e ∙ read_inside ts i x 0 h) ∙ sym (put_inside ts i (slice_index ts i - 1) h))

pub raised : (r : Role) (ts ns : List ℕ) (i n x : ℕ) → i < length ns → x ≡ get_or ns i x → holding r ts (set ns i ((x + n) % 2 ^ 64)) ≡ raise (holding r ts ns) i n
raised r ts ns i n x h e = ap (λ (l : List ℕ). holding r ts l) (ap (λ (y : ℕ). set ns i ((y + n) % 2 ^ 64)) (e ∙ read_inside ns i x 0 h) ∙ sym (put_inside ns i ((slice_index ns i + n) % 2 ^ 64) h))

-- main and a new helper after a split with this share
pub parts : (h : Holding) (share amounts : List ℕ) → main_weight h.role ≡ 1 → ((i : ℕ) → slice_index share i ≤ tokens_at i h)
    → ((i : ℕ) → slice_index amounts i ≡ 0) → Parts h (keeper h share) (helper_with share amounts)
parts h share amounts main fits none = ((λ i. let a = at_without h.tokens share i in let b = fits i in omega arith), refl, none, main, refl, refl)

-- main after a join with this helper
pub unites : (h k : Holding) → main_weight h.role ≡ 1 → k.role ≡ Helper → Unites h k (rejoined h k)
unites h k main helper = (
  (λ i. at_merged h.tokens k.tokens i),
  (λ i. twice (amount_at i (rejoined h k)) (slice_index (merged h.amounts k.amounts) i) (amount_at i h + amount_at i k) (at_wrapped (merged h.amounts k.amounts) i) (at_merged h.amounts k.amounts i)),
  main,
  refl,
  helper,
)
  where
    twice : (x y z : ℕ) → x ≡ y % 18446744073709551616 → y ≡ z → x % 18446744073709551616 ≡ z % 18446744073709551616
    twice x y z e f = omega arith
