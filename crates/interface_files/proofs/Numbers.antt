-- Digits of a number, one more at a time, and the first fault of a text.
use Rattle.std.proofs.Common.{◌≡◌, ℕ, ◌+◌, ◌*◌, ◌-◌, ◌<◌, ◌≤◌, Bool, true, false, not, ◌&&◌, ◌==◌, nat_lt, nat_le, List, [], ◌∷◌, length}
use Rattle.std.proofs.Common.{take, get_or, zero, suc, refl, ap, sym, ◌∙◌, arith, Option, None, Result, Ok, Err}
use Rattle.std.specs.Char.{is_ascii_digit}
use Rattle.std.specs.Int.{IsInRange}
use Rattle.std.specs.List.{list_all}
use Rattle.std.specs.Str.{all_ascii_digits}
use Rattle.std.specs.Str.Parse.{digits_value}
use Rattle.std.proofs.lemmas.Bool.Decides.{nat_tests}
use Rattle.std.proofs.lemmas.Int.Digits.{digits_value_more}
use Rattle.std.proofs.lemmas.Str.{digit_value_digit}
use Rattle.std.proofs.lemmas.Str.Parse.{digits_value-take-le}
use Rattle.flat_model.specs.Refuse.{refuse, unless}
use Rattle.flat_model.specs.Values.{ValueFault, Empty, NotANumber, LeadingZero, OutOfRange, begins_with_zero, number_fault, read_number}

-- ---- the value

pub in_range : (b : ℕ) → is_ascii_digit b ≡ true → IsInRange 48 57 b
in_range b e = (grind (arith, nat_tests), grind (arith, nat_tests))

and_first : (a b : Bool) → (a && b) ≡ true → a ≡ true
and_first true b e = refl
and_first false b e = e

and_second : (a b : Bool) → (a && b) ≡ true → b ≡ true
and_second true b e = e
and_second false b e = cc

digit_at : (ds : List ℕ) (i d : ℕ) → i < length ds → all_ascii_digits ds ≡ true → is_ascii_digit (get_or ds i d) ≡ true
digit_at [] i d lt all = absurd (omega (arith, lt))
digit_at (x ∷ ds) zero d lt all = and_first (is_ascii_digit x) (all_ascii_digits ds) all
digit_at (x ∷ ds) (suc i) d lt all = digit_at ds i d (omega (arith, lt)) (and_second (is_ascii_digit x) (all_ascii_digits ds) all)

pub digit_range : (ds : List ℕ) (i : ℕ) → i < length ds → all_ascii_digits ds ≡ true → IsInRange 48 57 (get_or ds i 0)
digit_range ds i lt all = in_range (get_or ds i 0) (digit_at ds i 0 lt all)

-- one more digit
pub value_more : (ds : List ℕ) (i v d : ℕ) → i < length ds → v ≡ digits_value 10 (take i ds) → all_ascii_digits ds ≡ true → d ≡ get_or ds i 0 - 48 → v * 10 + d ≡ digits_value 10 (take (i + 1) ds)
value_more ds i v d lt is all e =
    let r : IsInRange 48 57 (get_or ds i 0) = digit_range ds i lt all in
    let more = digits_value_more 10 ds i lt in
    let place = digit_value_digit (get_or ds i 0) r in
    omega (arith, more, place, is, e, r.0)

-- the value of all digits is no less than that of the first ones
pub great_is_beyond : (ds : List ℕ) (i n high most : ℕ) → n ≡ digits_value 10 (take i ds) → most ≡ high → most < n → digits_value 10 ds ≤ high → ⊥
great_is_beyond ds i n high most is e great h = omega (arith, digits_value-take-le 10 ds i (omega arith), is, e, great, h)

pub all_digits-list_all : (ds : List ℕ) → list_all (λ b. is_ascii_digit b) ds ≡ all_ascii_digits ds
all_digits-list_all [] = refl
all_digits-list_all (x ∷ ds) = ap (λ t. is_ascii_digit x && t) (all_digits-list_all ds)

-- what the test of each byte has told
are_digits : (ds : List ℕ) (b : Bool) → list_all (λ d. is_ascii_digit d) ds ≡ b → all_ascii_digits ds ≡ b
are_digits ds b e = sym (all_digits-list_all ds) ∙ e

-- ---- the first fault

abbrev pub fault_by : Bool → Bool → Bool → Bool → Bool → Option ValueFault
fault_by empty digits padded low high = refuse empty Empty (refuse (not digits) NotANumber (refuse padded LeadingZero (refuse (not (low && high)) OutOfRange None)))

abbrev pub read_by : ℕ → ℕ → List ℕ → Result ℕ ValueFault
read_by low high ds =
    unless (fault_by (length ds == 0) (all_ascii_digits ds) (nat_lt 1 (length ds) && begins_with_zero ds) (nat_le low (digits_value 10 ds))
    (nat_le (digits_value 10 ds) high)) (digits_value 10 ds)

read_is : (low high : ℕ) (ds : List ℕ) → read_by low high ds ≡ read_number low high ds
unfolding number_fault
read_is low high ds = refl

empty_by : (e d p l h : Bool) (v : ℕ) → e ≡ true → Err Empty ≡ unless (fault_by e d p l h) v
empty_by true d p l h v a = refl
empty_by false d p l h v a = cc

pub empty_is : (low high : ℕ) (ds : List ℕ) → (length ds == 0) ≡ true → Err Empty ≡ read_number low high ds
empty_is low high ds e =
    empty_by (length ds == 0) (all_ascii_digits ds) (nat_lt 1 (length ds) && begins_with_zero ds) (nat_le low (digits_value 10 ds))
    (nat_le (digits_value 10 ds) high) (digits_value 10 ds) e ∙ read_is low high ds

letters_by : (e d p l h : Bool) (v : ℕ) → e ≡ false → d ≡ false → Err NotANumber ≡ unless (fault_by e d p l h) v
letters_by true d p l h v a b = cc
letters_by false true p l h v a b = cc
letters_by false false p l h v a b = refl

pub letters_are : (low high : ℕ) (ds : List ℕ) → (length ds == 0) ≡ false → list_all (λ b. is_ascii_digit b) ds ≡ false → Err NotANumber ≡ read_number low high ds
letters_are low high ds e d =
    letters_by (length ds == 0) (all_ascii_digits ds) (nat_lt 1 (length ds) && begins_with_zero ds) (nat_le low (digits_value 10 ds))
    (nat_le (digits_value 10 ds) high) (digits_value 10 ds) e (are_digits ds false d) ∙ read_is low high ds

padded_by : (e d p l h : Bool) (v : ℕ) → e ≡ false → d ≡ true → p ≡ true → Err LeadingZero ≡ unless (fault_by e d p l h) v
padded_by true d p l h v a b c = cc
padded_by false false p l h v a b c = cc
padded_by false true false l h v a b c = cc
padded_by false true true l h v a b c = refl

pub padded_is : (low high : ℕ) (ds : List ℕ) → (length ds == 0) ≡ false → list_all (λ b. is_ascii_digit b) ds ≡ true
    → (nat_lt 1 (length ds) && begins_with_zero ds) ≡ true → Err LeadingZero ≡ read_number low high ds
padded_is low high ds e d p =
    padded_by (length ds == 0) (all_ascii_digits ds) (nat_lt 1 (length ds) && begins_with_zero ds) (nat_le low (digits_value 10 ds))
    (nat_le (digits_value 10 ds) high) (digits_value 10 ds) e (are_digits ds true d) p ∙ read_is low high ds

beyond_by : (e d p l h : Bool) (v : ℕ) → e ≡ false → d ≡ true → p ≡ false → (l ≡ true → h ≡ true → ⊥) → Err OutOfRange ≡ unless (fault_by e d p l h) v
beyond_by true d p l h v a b c f = cc
beyond_by false false p l h v a b c f = cc
beyond_by false true true l h v a b c f = cc
beyond_by false true false false h v a b c f = refl
beyond_by false true false true false v a b c f = refl
beyond_by false true false true true v a b c f = absurd (f refl refl)

below_by : (n m : ℕ) → nat_le n m ≡ true → n ≤ m
below_by n m e = grind (arith, nat_tests)

at_most : (n m : ℕ) → n ≤ m → nat_le n m ≡ true
at_most n m h = grind (arith, nat_tests)

pub beyond_is : (low high : ℕ) (ds : List ℕ) → (length ds == 0) ≡ false → list_all (λ b. is_ascii_digit b) ds ≡ true
    → (nat_lt 1 (length ds) && begins_with_zero ds) ≡ false → (low ≤ digits_value 10 ds → digits_value 10 ds ≤ high → ⊥)
    → Err OutOfRange ≡ read_number low high ds
beyond_is low high ds e d p f =
    beyond_by (length ds == 0) (all_ascii_digits ds) (nat_lt 1 (length ds) && begins_with_zero ds) (nat_le low (digits_value 10 ds))
    (nat_le (digits_value 10 ds) high) (digits_value 10 ds) e (are_digits ds true d) p
    (λ l h. f (below_by low (digits_value 10 ds) l) (below_by (digits_value 10 ds) high h)) ∙ read_is low high ds

good_by : (e d p l h : Bool) (v : ℕ) → e ≡ false → d ≡ true → p ≡ false → l ≡ true → h ≡ true → Ok v ≡ unless (fault_by e d p l h) v
good_by true d p l h v a b c x y = cc
good_by false false p l h v a b c x y = cc
good_by false true true l h v a b c x y = cc
good_by false true false false h v a b c x y = cc
good_by false true false true false v a b c x y = cc
good_by false true false true true v a b c x y = refl

pub number_is : (low high : ℕ) (ds : List ℕ) (n : ℕ) → (length ds == 0) ≡ false → list_all (λ b. is_ascii_digit b) ds ≡ true
    → (nat_lt 1 (length ds) && begins_with_zero ds) ≡ false → low ≤ digits_value 10 ds → digits_value 10 ds ≤ high → n ≡ digits_value 10 ds
    → Ok n ≡ read_number low high ds
number_is low high ds n e d p least most is =
    ap Ok is
    ∙ good_by (length ds == 0) (all_ascii_digits ds) (nat_lt 1 (length ds) && begins_with_zero ds) (nat_le low (digits_value 10 ds))
    (nat_le (digits_value 10 ds) high) (digits_value 10 ds) e (are_digits ds true d) p (at_most low (digits_value 10 ds) least)
    (at_most (digits_value 10 ds) high most)
    ∙ read_is low high ds

-- what is read is in the range
range_by : (e d p l h : Bool) (v n : ℕ) → Ok n ≡ unless (fault_by e d p l h) v → (l ≡ true) × (h ≡ true) × (v ≡ n)
range_by true d p l h v n x = cc
range_by false false p l h v n x = cc
range_by false true true l h v n x = cc
range_by false true false false h v n x = cc
range_by false true false true false v n x = cc
range_by false true false true true v n x = (refl, refl, cc)

pub number_range : (low high : ℕ) (ds : List ℕ) (n : ℕ) → Ok n ≡ read_number low high ds → (low ≤ n) × (n ≤ high)
number_range low high ds n h =
    let r = range_by (length ds == 0) (all_ascii_digits ds) (nat_lt 1 (length ds) && begins_with_zero ds) (nat_le low (digits_value 10 ds))
    (nat_le (digits_value 10 ds) high) (digits_value 10 ds) n (h ∙ sym (read_is low high ds)) in
    let least = below_by low (digits_value 10 ds) r.0 in
    let most = below_by (digits_value 10 ds) high r.1 in
    (omega (arith, least, r.2), omega (arith, most, r.2))
