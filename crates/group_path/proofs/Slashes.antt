-- The first slash of bytes, by the clause of the search for it.
use Rattle.std.proofs.Common.{◌≡◌, ℕ, ◌<◌, ◌≤◌, Bool, true, false, cond, nat_lt, List, length, ap, sym, ◌∙◌, arith, Option, Some, None, slice_index}
use Rattle.std.specs.List.{position, position_or_len}
use Rattle.std.proofs.lemmas.Bool.Decides.{nat_tests}
use Rattle.std.proofs.lemmas.List.Sums.{position_or_len_is}
use Rattle.std.proofs.lemmas.Bool.{false_from_ne_true}
use Rattle.memchr.specs.Find.{IsFirstByte}

-- where the first place is, if there is one
place_is : (p : ℕ → Bool) (bytes : List ℕ) (n : ℕ) → position_or_len p bytes ≡ n → n < length bytes → Some n ≡ position p bytes
place_is p bytes n e l =
    let t : nat_lt (position_or_len p bytes) (length bytes) ≡ true = grind (arith, nat_tests) in
    sym (ap (λ b. cond b (Some (position_or_len p bytes)) None) t ∙ ap Some e)

none_is : (p : ℕ → Bool) (bytes : List ℕ) (n : ℕ) → position_or_len p bytes ≡ n → length bytes ≤ n → None ≡ position p bytes
none_is p bytes n e l =
    let t : nat_lt (position_or_len p bytes) (length bytes) ≡ false = grind (arith, nat_tests) in
    sym (ap (λ b. cond b (Some (position_or_len p bytes)) None) t)

-- what a search found is the first place
pub first_is : (p : ℕ → Bool) (bytes : List ℕ) (r : Option ℕ) → IsFirstByte p bytes r → r ≡ position p bytes
first_is p bytes None none =
    none_is p bytes (length bytes)
    (position_or_len_is p bytes (length bytes) 0 (omega arith) (λ k l. false_from_ne_true (p (slice_index bytes k)) (none k (omega arith) l))
    (λ l. absurd (omega arith))) (omega arith)
first_is p bytes (Some at) found =
    let l = found.0.high in
    place_is p bytes at (position_or_len_is p bytes at 0 (omega arith) (λ k l. false_from_ne_true (p (slice_index bytes k)) (found.0.before k (omega arith) l)) (λ l. found.1)) l
