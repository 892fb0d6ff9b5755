-- Short numbers: the value of the digits so far, and that no spaces are dropped.
use Rattle.std.proofs.Common.{◌≡◌, ℕ, ◌+◌, ◌*◌, ◌-◌, ◌^◌, ◌<◌, ◌≤◌, Bool, true, false, cond, ◌&&◌, ◌==◌, nat_lt, List, [], ◌∷◌, length}
use Rattle.std.proofs.Common.{take, drop, get_or, refl, ap, sym, subst, ◌∙◌, arith, Ok}
use Rattle.std.specs.Char.{is_ascii_digit, digit_value}
use Rattle.std.specs.Int.{IsInRange}
use Rattle.std.specs.List.{list_all, prefix_len, suffix_len}
use Rattle.std.specs.Str.{all_ascii_digits}
use Rattle.std.specs.Str.Parse.{AllDigits, digits_value}
use Rattle.std.proofs.Math.Seq.{take-length}
use Rattle.std.proofs.lemmas.Bool.Decides.{nat_tests}
use Rattle.std.proofs.lemmas.Int.Digits.{digits_value_more, digits_more}
use Rattle.std.proofs.lemmas.List.{length-take-le, take_all}
use Rattle.std.proofs.lemmas.List.Sums.{suffix_len_is}
use Rattle.std.proofs.lemmas.Str.{digit_value_digit}
use Rattle.std.proofs.lemmas.Str.Parse.{IsNumeralModel, numerals_by_value, tells_digits, tells_all_ascii_digits, digits_value_short, digit_from_value, digit_at}
use Rattle.flat_model.specs.Values.{pid_max, is_space, without_front, without_end, trimmed, begins_with_zero, read_number}
use Rattle.interface_files.proofs.Numbers.{in_range, all_digits-list_all, number_is}

-- ---- one more digit

digit_below : (b : ℕ) → is_ascii_digit b ≡ true → digit_value b < 10
digit_below b e = let r = in_range b e in let v = digit_value_digit b r in omega (arith, v, r.0, r.1)

pub digits_so_far : (ds : List ℕ) (i : ℕ) → i < length ds → AllDigits 10 (take i ds) → is_ascii_digit (get_or ds i 0) ≡ true → AllDigits 10 (take (i + 1) ds)
digits_so_far ds i lt all e = digits_more 10 ds i lt all (digit_below (get_or ds i 0) e)

pub value_so_far : (ds : List ℕ) (i v d : ℕ) → i < length ds → v ≡ digits_value 10 (take i ds) → is_ascii_digit (get_or ds i 0) ≡ true
    → d ≡ get_or ds i 0 - 48 → v * 10 + d ≡ digits_value 10 (take (i + 1) ds)
value_so_far ds i v d lt is e at =
    let r = in_range (get_or ds i 0) e in
    let more = digits_value_more 10 ds i lt in
    let place = digit_value_digit (get_or ds i 0) r in
    omega (arith, more, place, is, at, r.0)

-- six digits make less than a million
pub below_million : (ds : List ℕ) (i v : ℕ) → i < length ds → length ds ≤ 7 → v ≡ digits_value 10 (take i ds) → AllDigits 10 (take i ds) → v < 10 ^ 6
below_million ds i v lt few is all =
    let own : IsNumeralModel (AllDigits 10) (digits_value 10) = numerals_by_value (AllDigits 10) tells_digits in
    let short : length (take i ds) ≤ 6 = omega (arith, length-take-le i ds (omega arith)) in
    let small = digits_value_short own (take i ds) 6 all short in
    omega (arith, is, small)

-- ---- no spaces

no_space : (b : ℕ) → IsInRange 48 57 b → is_space b ≡ false
no_space b r = let least : 48 ≤ b = r.0 in grind (arith, nat_tests)

no_front : (ds : List ℕ) → AllDigits 10 ds → prefix_len is_space ds ≡ 0
no_front [] all = refl
no_front (b ∷ ds) all = ap (λ t. cond t (1 + prefix_len is_space ds) 0) (no_space b (digit_from_value b all.0))

no_end : (ds : List ℕ) → AllDigits 10 ds → suffix_len is_space ds ≡ 0
no_end ds all =
    let e = suffix_len_is is_space ds (length ds) 0 (omega arith) (λ k a b. absurd (omega arith))
    (λ h. no_space (get_or ds (length ds - 1) 0) (digit_at ds (length ds - 1) all (omega arith))) in
    omega (arith, e)

whole : (ds : List ℕ) → AllDigits 10 ds → trimmed ds ≡ ds
whole ds all =
    let none : length ds - 0 ≡ length ds = omega arith in
    ap (λ n. without_end (drop n ds)) (no_front ds all)
    ∙ ap (λ n. take (length ds - n) ds) (no_end ds all)
    ∙ ap (λ n. take n ds) none
    ∙ take-length ds

-- ---- the pid

not_empty : (ds : List ℕ) → 1 ≤ digits_value 10 ds → (length ds == 0) ≡ false
not_empty [] h = absurd (omega (arith, h))
not_empty (b ∷ ds) h = grind (arith, nat_tests)

and_false : (a b : Bool) → b ≡ false → (a && b) ≡ false
and_false true b e = e
and_false false b e = refl

short_by : (ds : List ℕ) (n : ℕ) → AllDigits 10 ds → begins_with_zero ds ≡ false → n ≡ digits_value 10 ds → 1 ≤ n → n ≤ pid_max → Ok n ≡ read_number 1 pid_max (trimmed ds)
short_by ds n all first is least most =
    let tells : IsNumeralModel (λ xs. all_ascii_digits xs ≡ true) (digits_value 10) = numerals_by_value (λ xs. all_ascii_digits xs ≡ true) tells_all_ascii_digits in
    number_is 1 pid_max ds n (not_empty ds (omega (arith, is, least))) (all_digits-list_all ds ∙ tells.from ds all)
    (and_false (nat_lt 1 (length ds)) (begins_with_zero ds) first) (omega (arith, is, least)) (omega (arith, is, most)) is
    ∙ ap (read_number 1 pid_max) (sym (whole ds all))

-- after the last digit
pub short_is : (ds : List ℕ) (i n : ℕ) → length ds ≤ i → AllDigits 10 (take i ds) → begins_with_zero ds ≡ false → n ≡ digits_value 10 (take i ds) → 1 ≤ n → n ≤ pid_max
    → Ok n ≡ read_number 1 pid_max (trimmed ds)
short_is ds i n end all first is least most =
    let e = take_all i ds end in
    short_by ds n (subst (AllDigits 10) e all) first (is ∙ ap (digits_value 10) e) least most
