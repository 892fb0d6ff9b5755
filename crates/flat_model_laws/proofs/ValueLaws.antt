-- The decimal of a number in its range is read as that number, and the text of a limit as that limit.
use Rattle.std.proofs.Common.{◌≡◌, ◌≢◌, ℕ, suc, zero, ◌<◌, ◌≤◌, ◌^◌, true, false, cond, not, ◌&&◌, ◌==◌, List, [], ◌∷◌, length, get_or}
use Rattle.std.proofs.Common.{refl, ap, sym, subst, ◌∙◌, arith, Option, None, Result, Ok, Err, inl, inr}
use Rattle.std.specs.Prelude.{codes, decimal, nat_lt, nat_le}
use Rattle.std.specs.Char.{is_ascii_digit}
use Rattle.std.specs.Fmt.{digits}
use Rattle.std.specs.Str.{all_ascii_digits}
use Rattle.std.specs.Str.Parse.{digits_value}
use Rattle.std.proofs.lemmas.Bool.{and_parts, and_from, and_right, and_cases, not-false, ne_eqb, eqb-true, eqb-false, ltb-false, leb-true, cond_both}
use Rattle.std.proofs.lemmas.Bool.Decides.{nat_tests}
use Rattle.std.proofs.lemmas.Fmt.{decimal_nonempty, digits_decimal, digits_value-decimal, decimal-digits_value, first_decimal}
use Rattle.std.proofs.lemmas.Str.Parse.{IsNumeralModel, numerals_by_value, tells_all_ascii_digits}
use Rattle.flat_model.specs.Refuse.{refuse, unless, map_ok}
use Rattle.flat_model.specs.Path.{same_name}
use Rattle.flat_model.specs.State.{Limit, Unlimited, At}
use Rattle.flat_model.specs.File.{LimitFile, PidsMax, MaxDescendants, MaxDepth}
use Rattle.flat_model.specs.FileText.{limit_text}
use Rattle.flat_model.specs.Values.{pid_max, limit_max, hierarchy_limit_max, is_space, trimmed, begins_with_zero, number_fault, read_number}
use Rattle.flat_model.specs.Values.{read_pid, read_kill, limit_from, read_limit_in, read_limit, ValueFault, Empty, NotANumber, LeadingZero}
use Rattle.flat_model.specs.Values.{OutOfRange}
use Rattle.flat_model.specs.CommandText.{IsPid, IsLimit, IsLimitText}
use Rattle.flat_model.proofs.PathLaws.{same_name_is}
use Rattle.flat_model.proofs.PathTextLaws.{refuse_none, refuse_passed, unless_ok}
use Rattle.flat_model_laws.proofs.WordLaws.{is_plain, is_word, trimmed-plain}

digits_are : IsNumeralModel (λ ds. all_ascii_digits ds ≡ true) (digits_value 10)
digits_are = numerals_by_value _ tells_all_ascii_digits

-- below this std says what `decimal` writes
abbrev pub wide : ℕ
wide = 2 ^ 64

-- ---- a decimal is a word

digit_plain : (b : ℕ) → is_ascii_digit b ≡ true → not (is_space b) ≡ true
digit_plain b h = grind (arith, nat_tests)

digits_plain : (ds : List ℕ) → all_ascii_digits ds ≡ true → is_plain ds ≡ true
digits_plain [] h = refl
digits_plain (b ∷ ds) h =
    let p = and_parts (is_ascii_digit b) (all_ascii_digits ds) h in
    and_from (not (is_space b)) (is_plain ds) (digit_plain b p.0) (digits_plain ds p.1)

decimal_digits : (n : ℕ) → n < wide → all_ascii_digits (decimal n) ≡ true
decimal_digits n h = digits_decimal digits_are n h

pub decimal_plain : (n : ℕ) → n < wide → is_plain (decimal n) ≡ true
decimal_plain n h = digits_plain (decimal n) (decimal_digits n h)

plain_word : (w : List ℕ) → 0 < length w → is_plain w ≡ true → is_word w ≡ true
plain_word [] l h = absurd (omega arith)
plain_word (b ∷ w) l h = h

pub decimal_is_word : (n : ℕ) → n < wide → is_word (decimal n) ≡ true
decimal_is_word n h = plain_word (decimal n) (decimal_nonempty n h) (decimal_plain n h)

-- ---- a decimal is a number

above_zero : (ds : List ℕ) → 48 < get_or ds 0 0 → begins_with_zero ds ≡ false
above_zero [] h = refl
above_zero (b ∷ ds) h = ne_eqb b 0x30 (λ e. omega arith)

no_leading_zero : (n : ℕ) → n < wide → (nat_lt 1 (length (decimal n)) && begins_with_zero (decimal n)) ≡ false
unfolding digits
no_leading_zero zero h = refl
no_leading_zero (suc n) h = and_right (nat_lt 1 (length (decimal (suc n)))) (begins_with_zero (decimal (suc n))) (above_zero (decimal (suc n)) (first_decimal (suc n) (omega arith) h))

decimal_value : (n : ℕ) → n < wide → digits_value 10 (decimal n) ≡ n
decimal_value n h = digits_value-decimal digits_are n h

in_range : (low high n : ℕ) → low ≤ n → n ≤ high → not (nat_le low n && nat_le n high) ≡ false
in_range low high n a b = grind (arith, nat_tests)

decimal_fault : (low high n : ℕ) → low ≤ n → n ≤ high → n < wide → number_fault low high (decimal n) ≡ None
unfolding number_fault
decimal_fault low high n a b h =
    let ds = decimal n in
    let range = λ (m : ℕ). not (nat_le low m && nat_le m high) in
    let last = refuse (range (digits_value 10 ds)) OutOfRange None in
    let zero_test = refuse (nat_lt 1 (length ds) && begins_with_zero ds) LeadingZero last in
    refuse_passed (length ds == 0) Empty (refuse (not (all_ascii_digits ds)) NotANumber zero_test) (ne_eqb (length ds) 0 (λ e. let k = decimal_nonempty n h in omega arith))
    ∙ refuse_passed (not (all_ascii_digits ds)) NotANumber zero_test (ap not (decimal_digits n h))
    ∙ refuse_passed (nat_lt 1 (length ds) && begins_with_zero ds) LeadingZero last (no_leading_zero n h)
    ∙ refuse_passed (range (digits_value 10 ds)) OutOfRange None (ap range (decimal_value n h) ∙ in_range low high n a b)

pub read_number-decimal : (low high n : ℕ) → low ≤ n → n ≤ high → n < wide → read_number low high (decimal n) ≡ Ok n
read_number-decimal low high n a b h =
    ap (λ (o : Option ValueFault). unless o (digits_value 10 (decimal n))) (decimal_fault low high n a b h) ∙ ap (λ (m : ℕ). Ok m) (decimal_value n h)

-- ---- pids and limits

pub read_pid-decimal : (n : ℕ) → IsPid n → read_pid (decimal n) ≡ Ok n
read_pid-decimal n h =
    let small : n < wide = let k = h.1 in omega arith in
    ap (read_number 1 pid_max) (trimmed-plain (decimal n) (decimal_plain n small)) ∙ read_number-decimal 1 pid_max n h.0 h.1 small

not_max : (n : ℕ) → n < wide → same_name (decimal n) (codes "max") ≡ false
not_max n h = elim (same_name (decimal n) (codes "max")) as (λ b. same_name (decimal n) (codes "max") ≡ b → b ≡ false) [
  | true ↦ λ e. let d = subst (λ (w : List ℕ). all_ascii_digits w ≡ true) ((same_name_is (decimal n) (codes "max")).0 e) (decimal_digits n h) in cc
  | false ↦ λ e. refl
] refl

read_limit-at : (file : LimitFile) (n : ℕ) → n ≤ limit_max file → n < wide → limit_from file n ≡ At n → read_limit file (decimal n) ≡ Ok (At n)
read_limit-at file n most h is =
    let rest = map_ok (limit_from file) (read_number 0 (limit_max file) (decimal n)) in
    ap (read_limit_in file) (trimmed-plain (decimal n) (decimal_plain n h))
    ∙ ap (λ b. cond b (Ok Unlimited) rest) (not_max n h)
    ∙ ap (map_ok (limit_from file)) (read_number-decimal 0 (limit_max file) n (omega arith) most h)
    ∙ ap (λ (l : Limit). Ok l) is

at_less : (n : ℕ) → n ≢ hierarchy_limit_max → cond (n == hierarchy_limit_max) Unlimited (At n) ≡ At n
at_less n h = ap (λ b. cond b Unlimited (At n)) (ne_eqb n hierarchy_limit_max h)

pub read_limit-limit_text : (file : LimitFile) (l : Limit) → IsLimit file l → read_limit file (limit_text l) ≡ Ok l
read_limit-limit_text file Unlimited h = refl
read_limit-limit_text PidsMax (At n) h = read_limit-at PidsMax n h (omega arith) refl
read_limit-limit_text MaxDescendants (At n) h = read_limit-at MaxDescendants n h.0 (let k = h.0 in omega arith) (at_less n h.1)
read_limit-limit_text MaxDepth (At n) h = read_limit-at MaxDepth n h.0 (let k = h.0 in omega arith) (at_less n h.1)

-- ---- only such texts are read

one_digit : (ds : List ℕ) → 0 < length ds → (nat_lt 1 (length ds) && begins_with_zero ds) ≡ false → get_or ds 0 0 ≡ 48 → length ds ≡ 1
one_digit [] l h e = absurd (omega arith)
one_digit (b ∷ ds) l h e = elim (and_cases (nat_lt 1 (length (b ∷ ds))) (b == 0x30) h) as (λ _. length (b ∷ ds) ≡ 1) [
  | inl k ↦ let short = ltb-false 1 (length (b ∷ ds)) k in omega arith
  | inr k ↦ absurd (eqb-false b 0x30 k e)
]

pub record IsDecimal (low high : ℕ) (ds : List ℕ) (n : ℕ) : Type 0 where
  pub low_enough : low ≤ n
  pub high_enough : n ≤ high
  pub text : ds ≡ decimal n

-- digits that have no fault are the decimal of their value
decimal_only : (low high : ℕ) (ds : List ℕ) → high < wide → number_fault low high ds ≡ None → IsDecimal low high ds (digits_value 10 ds)
unfolding number_fault
decimal_only low high ds h e =
    let v = digits_value 10 ds in
    let last = refuse (not (nat_le low v && nat_le v high)) OutOfRange None in
    let zero_test = refuse (nat_lt 1 (length ds) && begins_with_zero ds) LeadingZero last in
    let some = refuse_none (length ds == 0) Empty (refuse (not (all_ascii_digits ds)) NotANumber zero_test) e in
    let number = refuse_none (not (all_ascii_digits ds)) NotANumber zero_test some.1 in
    let shown = refuse_none (nat_lt 1 (length ds) && begins_with_zero ds) LeadingZero last number.1 in
    let ranged = refuse_none (not (nat_le low v && nat_le v high)) OutOfRange None shown.1 in
    let within = and_parts (nat_le low v) (nat_le v high) (not-false (nat_le low v && nat_le v high) ranged.0) in
    let most : v ≤ high = leb-true v high within.1 in
    let has_digits : 0 < length ds = let k = eqb-false (length ds) 0 some.0 in omega arith in
    record {
      low_enough = leb-true low v within.0;
      high_enough = most;
      text = sym (decimal-digits_value digits_are ds (not-false (all_ascii_digits ds) number.0) has_digits (one_digit ds has_digits shown.0) (omega arith));
    }

read_number_only : (low high : ℕ) (ds : List ℕ) (n : ℕ) → high < wide → read_number low high ds ≡ Ok n → IsDecimal low high ds n
read_number_only low high ds n h e =
    let u = unless_ok (number_fault low high ds) (digits_value 10 ds) n e in
    subst (λ (m : ℕ). IsDecimal low high ds m) u.1 (decimal_only low high ds h u.0)

pub read_pid_only : (text : List ℕ) (n : ℕ) → read_pid text ≡ Ok n → IsPid n × (trimmed text ≡ decimal n)
read_pid_only text n e = let d = read_number_only 1 pid_max (trimmed text) n (omega arith) e in ((d.low_enough, d.high_enough), d.text)

pub read_kill_only : (text : List ℕ) (n : ℕ) → read_kill text ≡ Ok n → trimmed text ≡ codes "1"
unfolding digits
read_kill_only text n e =
    let d = read_number_only 1 1 (trimmed text) n (omega arith) e in
    let one : n ≡ 1 = let a = d.low_enough in let b = d.high_enough in omega arith in
    d.text ∙ ap decimal one

same_limit : (k l : Limit) → ◌≡◌ {A = Result Limit ValueFault} (Ok k) (Ok l) → k ≡ l
same_limit k l e = cc

limit_from_only : (file : LimitFile) (n : ℕ) → n ≤ limit_max file → IsLimit file (limit_from file n)
limit_from_only PidsMax n h = h
limit_from_only MaxDescendants n h = cond_both (n == hierarchy_limit_max) Unlimited (At n) (IsLimit MaxDescendants) (λ e. tt) (λ e. (h, eqb-false n hierarchy_limit_max e))
limit_from_only MaxDepth n h = cond_both (n == hierarchy_limit_max) Unlimited (At n) (IsLimit MaxDepth) (λ e. tt) (λ e. (h, eqb-false n hierarchy_limit_max e))

limit_small : (file : LimitFile) → limit_max file < wide
limit_small PidsMax = omega arith
limit_small MaxDescendants = omega arith
limit_small MaxDepth = omega arith

number_limit_only : (file : LimitFile) (r : Result ℕ ValueFault) (l : Limit) → ((n : ℕ) → r ≡ Ok n → n ≤ limit_max file) → map_ok (limit_from file) r ≡ Ok l → IsLimit file l
number_limit_only file (Ok n) l h e = subst (IsLimit file) (same_limit (limit_from file n) l e) (limit_from_only file n (h n refl))
number_limit_only file (Err f) l h e = cc

pub read_limit_only : (file : LimitFile) (text : List ℕ) (l : Limit) → read_limit file text ≡ Ok l → IsLimit file l
read_limit_only file text l e =
    let digits = trimmed text in
    let r = read_number 0 (limit_max file) digits in
    elim (same_name digits (codes "max")) as (λ b. cond b (Ok Unlimited) (map_ok (limit_from file) r) ≡ Ok l → IsLimit file l) [
      | true ↦ λ k. subst (IsLimit file) (same_limit Unlimited l k) tt
      | false ↦ λ k. number_limit_only file r l (λ n g. (read_number_only 0 (limit_max file) digits n (limit_small file) g).high_enough) k
    ] e

limit_from_text : (file : LimitFile) (n : ℕ) (text : List ℕ) → text ≡ decimal n → IsLimitText file (limit_from file n) text
limit_from_text PidsMax n text h = h
limit_from_text MaxDescendants n text h =
    cond_both (n == hierarchy_limit_max) Unlimited (At n) (λ l. IsLimitText MaxDescendants l text) (λ e. inr (
      refl,
      h
          ∙ ap decimal (eqb-true n hierarchy_limit_max e),
    )) (λ e. h)
limit_from_text MaxDepth n text h =
    cond_both (n == hierarchy_limit_max) Unlimited (At n) (λ l. IsLimitText MaxDepth l text) (λ e. inr (
      refl,
      h
          ∙ ap decimal (eqb-true n hierarchy_limit_max e),
    )) (λ e. h)

number_limit_text : (file : LimitFile) (text : List ℕ) (r : Result ℕ ValueFault) (l : Limit) → ((n : ℕ) → r ≡ Ok n → text ≡ decimal n) → map_ok (limit_from file) r ≡ Ok l → IsLimitText file l text
number_limit_text file text (Ok n) l h e = subst (λ (k : Limit). IsLimitText file k text) (same_limit (limit_from file n) l e) (limit_from_text file n text (h n refl))
number_limit_text file text (Err f) l h e = cc

-- what is read as a limit says it
pub read_limit_text : (file : LimitFile) (text : List ℕ) (l : Limit) → read_limit file text ≡ Ok l → IsLimitText file l (trimmed text)
read_limit_text file text l e =
    let digits = trimmed text in
    let r = read_number 0 (limit_max file) digits in
    elim (same_name digits (codes "max")) as (λ b. same_name digits (codes "max") ≡ b → cond b (Ok Unlimited) (map_ok (limit_from file) r) ≡ Ok l → IsLimitText file l digits) [
      | true ↦ λ t k. subst (λ (m : Limit). IsLimitText file m digits) (same_limit Unlimited l k) (inl ((same_name_is digits (codes "max")).0 t))
      | false ↦ λ t k. number_limit_text file digits r l (λ n g. (read_number_only 0 (limit_max file) digits n (limit_small file) g).text) k
    ] refl e
