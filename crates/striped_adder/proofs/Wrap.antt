-- The total of stripes after one word was written, and of the stripes before an index.
use Rattle.std.proofs.Common.{◌≡◌, ℕ, ◌+◌, ◌-◌, ◌%◌, ◌^◌, ◌<◌, ◌≤◌, List, length, get_or, set, take, replicate, sum, arith, refl, ap}
use Rattle.std.proofs.lemmas.List.Folds.{sum_by-replicate}
use Rattle.std.proofs.Math.Nat.{mul-zero, add-mod-mod, mod-add-mod}
use Rattle.std.proofs.lemmas.List.Sums.{sum_by-set, get_or-le-sum_by, sum_by_more}
use Rattle.striped_adder.specs.Total.{total}

-- `e`: the sum with the word exchanged
after_add : (m s w n t : ℕ) → w ≤ s → t + w ≡ s + (w + n) % m → t % m ≡ (s % m + n) % m
after_add m s w n t le e =
    let shifted : t ≡ (s - w) + (w + n) % m = omega arith in
    rw (shifted, add-mod-mod (s - w) (w + n) m, mod-add-mod s m n) (ap (λ x. x % m) (omega arith))

pub total-add : (words : List ℕ) (i n : ℕ) → i < length words → total (set words i ((get_or words i 0 + n) % 2 ^ 64)) ≡ (total words + n) % 2 ^ 64
unfolding total
total-add words i n h = after_add _ (sum words) (get_or words i 0) n _ (get_or-le-sum_by (λ x. x) words i 0 h) (sum_by-set (λ x. x) words i _ 0 h)

pub total-more : (words : List ℕ) (i : ℕ) → i < length words → (total (take i words) + get_or words i 0) % 2 ^ 64 ≡ total (take (i + 1) words)
unfolding total
total-more words i h = rw (mod-add-mod (sum (take i words)) (2 ^ 64) (get_or words i 0), sum_by_more (λ x. x) words i 0 h) refl

-- stripes that are all zero
pub total-zero : (n : ℕ) → total (replicate n 0) ≡ 0
unfolding total
total-zero n = rw (sum_by-replicate (λ x. x) n 0, mul-zero n) refl
