-- A text without its first line, and a line without its first word.
use Rattle.std.proofs.Common.{◌≡◌, ℕ, ◌+◌, ◌-◌, ◌<◌, ◌≤◌, Bool, true, false, cond, not, ◌==◌, nat_lt, List, [], ◌∷◌, length, take, drop, filter, suc, refl, ap, sym, subst, ◌∙◌, arith, Some, None}
use Rattle.std.specs.List.{position, position_or_len, slice_split, onto_first}
use Rattle.std.proofs.lemmas.Bool.Decides.{nat_tests}
use Rattle.std.proofs.lemmas.List.{take_rest, drop_all, length-take-le}
use Rattle.std.proofs.lemmas.List.Sums.{fails_before_first}
use Rattle.std.proofs.lemmas.List.Splits.{slice_split_first, slice_split_none}
use Rattle.flat_model.specs.Trace.{Word, is_line_feed, is_blank, without_empty_end, lines_in, words_in}
use Rattle.trace_lines.specs.Cut.{begins_with_blank}
use Rattle.flat_model.proofs.Booleans.{place_by, no_place}
use Rattle.flat_model.proofs.LineEnds.{without_empty_end-cons}

-- ---- where an element stands first

place : (p : ℕ → Bool) (bytes : List ℕ) (end : ℕ) → Some end ≡ position p bytes → (position_or_len p bytes < length bytes) × (position_or_len p bytes ≡ end)
place p bytes end h = place_by (position_or_len p bytes) (length bytes) end (nat_lt (position_or_len p bytes) (length bytes)) refl h

-- the parts, at the first cut
cut_at : (p : ℕ → Bool) (bytes : List ℕ) (end : ℕ) → Some end ≡ position p bytes → slice_split p bytes ≡ take end bytes ∷ slice_split p (drop (end + 1) bytes)
cut_at p bytes end h =
    slice_split_first p bytes 0 (place p bytes end h).0 ∙ ap (λ n. take n bytes ∷ slice_split p (drop (n + 1) bytes)) (place p bytes end h).1

whole : (p : ℕ → Bool) (bytes : List ℕ) → None ≡ position p bytes → slice_split p bytes ≡ bytes ∷ []
whole p bytes h =
    let e = no_place (position_or_len p bytes) (length bytes) (nat_lt (position_or_len p bytes) (length bytes)) refl h in
    slice_split_none p bytes (λ k d l. fails_before_first p bytes k d (let j : k < position_or_len p bytes = omega arith in j))

pub nothing_left : (bytes : List ℕ) → take (length bytes - length bytes) (drop (length bytes) bytes) ≡ []
nothing_left bytes = take_rest bytes (length bytes) ∙ drop_all (length bytes) bytes (omega arith)

-- ---- lines

pub lines_at : (bytes : List ℕ) (end : ℕ) → Some end ≡ position is_line_feed bytes → lines_in bytes ≡ take end bytes ∷ lines_in (drop (end + 1) bytes)
lines_at bytes end h = ap without_empty_end (cut_at is_line_feed bytes end h) ∙ without_empty_end-cons (take end bytes) (drop (end + 1) bytes)

pub lines_at_slice : (lines : List (List ℕ)) (bytes : List ℕ) (end : ℕ) → lines_in bytes ≡ lines → Some end ≡ position is_line_feed bytes
    → lines ≡ take end bytes ∷ lines_in (take (length bytes - (end + 1)) (drop (end + 1) bytes))
lines_at_slice lines bytes end is h = sym is ∙ lines_at bytes end h ∙ ap (λ x. take end bytes ∷ lines_in x) (sym (take_rest bytes (end + 1)))

last_by : (bytes : List ℕ) (b : Bool) → (length bytes == 0) ≡ b → b ≡ false → cond b [] (bytes ∷ []) ≡ bytes ∷ []
last_by bytes b e h = ap (λ t. cond t [] (bytes ∷ [])) h

pub last_line : (lines : List (List ℕ)) (bytes : List ℕ) → lines_in bytes ≡ lines → (length bytes == 0) ≡ false
    → None ≡ position is_line_feed bytes → lines ≡ bytes ∷ lines_in (take (length bytes - length bytes) (drop (length bytes) bytes))
last_line lines bytes is some h =
    sym is ∙ ap without_empty_end (whole is_line_feed bytes h) ∙ last_by bytes (length bytes == 0) refl some ∙ ap (λ x. bytes ∷ lines_in x) (sym (nothing_left bytes))

-- ---- words

-- a blank in front says nothing
skip_by : (b : Bool) (y : ℕ) (parts : List (List ℕ)) → b ≡ true → filter (λ w. not (length w == 0)) (cond b ([] ∷ parts) (onto_first y parts)) ≡ filter (λ w. not (length w == 0)) parts
skip_by true y parts e = refl
skip_by false y parts e = cc

skip_one : (b : ℕ) (bytes : List ℕ) → is_blank b ≡ true → words_in (b ∷ bytes) ≡ words_in bytes
skip_one b bytes e = skip_by (is_blank b) b (slice_split is_blank bytes) e

drop_one : (n b : ℕ) (bytes : List ℕ) → drop (1 + n) (b ∷ bytes) ≡ drop n bytes
drop_one n b bytes = let e : 1 + n ≡ suc n = omega arith in ap (λ m. drop m (b ∷ bytes)) e

skip_front_by : (b : ℕ) (bytes : List ℕ) (n : ℕ) (t : Bool) → is_blank b ≡ t → words_in (drop n bytes) ≡ words_in bytes
    → words_in (drop (cond (not (not t)) (1 + n) 0) (b ∷ bytes)) ≡ words_in (b ∷ bytes)
skip_front_by b bytes n true e rest = ap words_in (drop_one n b bytes) ∙ rest ∙ sym (skip_one b bytes e)
skip_front_by b bytes n false e rest = refl

-- nor do all the blanks in front
skip_front : (bytes : List ℕ) → words_in (drop (position_or_len (λ b. not (is_blank b)) bytes) bytes) ≡ words_in bytes
skip_front [] = refl
skip_front (b ∷ bytes) = skip_front_by b bytes (position_or_len (λ c. not (is_blank c)) bytes) (is_blank b) refl (skip_front bytes)

stops_by : (b : ℕ) (bytes : List ℕ) (n : ℕ) (t : Bool) → is_blank b ≡ t → begins_with_blank (drop n bytes) ≡ false → begins_with_blank (drop (cond (not (not t)) (1 + n) 0) (b ∷ bytes)) ≡ false
stops_by b bytes n true e rest = ap begins_with_blank (drop_one n b bytes) ∙ rest
stops_by b bytes n false e rest = e

stops : (bytes : List ℕ) → begins_with_blank (drop (position_or_len (λ b. not (is_blank b)) bytes) bytes) ≡ false
stops [] = refl
stops (b ∷ bytes) = stops_by b bytes (position_or_len (λ c. not (is_blank c)) bytes) (is_blank b) refl (stops bytes)

pub behind_some : (bytes : List ℕ) (start : ℕ) → Some start ≡ position (λ b. not (is_blank b)) bytes → (words_in (drop start bytes) ≡ words_in bytes) × (begins_with_blank (drop start bytes) ≡ false)
behind_some bytes start h =
    let at = (place (λ b. not (is_blank b)) bytes start h).1 in
    (ap (λ n. words_in (drop n bytes)) (sym at) ∙ skip_front bytes, ap (λ n. begins_with_blank (drop n bytes)) (sym at) ∙ stops bytes)

pub behind_none : (bytes : List ℕ) → None ≡ position (λ b. not (is_blank b)) bytes → words_in (take (length bytes - length bytes) (drop (length bytes) bytes)) ≡ words_in bytes
behind_none bytes h =
    let far = no_place (position_or_len (λ b. not (is_blank b)) bytes) (length bytes) (nat_lt (position_or_len (λ b. not (is_blank b)) bytes) (length bytes)) refl h in
    ap words_in (nothing_left bytes) ∙ ap words_in (sym (drop_all (position_or_len (λ b. not (is_blank b)) bytes) bytes far)) ∙ skip_front bytes

pub behind_some_slice : (bytes : List ℕ) (start : ℕ) → Some start ≡ position (λ b. not (is_blank b)) bytes
    → (words_in (take (length bytes - start) (drop start bytes)) ≡ words_in bytes)
    × (begins_with_blank (take (length bytes - start) (drop start bytes)) ≡ false)
behind_some_slice bytes start h =
    let P : List ℕ → Type 0 = λ x. (words_in x ≡ words_in bytes) × (begins_with_blank x ≡ false) in
    subst P (sym (take_rest bytes start)) (behind_some bytes start h)

-- a part that is not empty is a word
word_by : (w : List ℕ) (parts : List (List ℕ)) (b : Bool) → (length w == 0) ≡ b → b ≡ false → filter (λ v. not (length v == 0)) (w ∷ parts) ≡ w ∷ filter (λ v. not (length v == 0)) parts
word_by w parts b e h = ap (λ t. cond (not t) (w ∷ filter (λ v. not (length v == 0)) parts) (filter (λ v. not (length v == 0)) parts)) (e ∙ h)

end_by : (n : ℕ) (t : Bool) → t ≡ false → 1 ≤ cond (not t) (1 + n) 0
end_by n true e = cc
end_by n false e = omega arith

far_end : (bytes : List ℕ) (end : ℕ) → begins_with_blank bytes ≡ false → Some end ≡ position is_blank bytes → (1 ≤ end) × (end < length bytes)
far_end [] end first h = cc
far_end (b ∷ bytes) end first h =
    let p = place is_blank (b ∷ bytes) end h in
    (subst (λ n. 1 ≤ n) p.1 (end_by (position_or_len is_blank bytes) (is_blank b) first), subst (λ n. n < length (b ∷ bytes)) p.1 p.0)

pub word_at : (bytes : List ℕ) (end : ℕ) → begins_with_blank bytes ≡ false → Some end ≡ position is_blank bytes → words_in bytes ≡ take end bytes ∷ words_in (drop (end + 1) bytes)
word_at bytes end first h =
    let far = far_end bytes end first h in
    let some : (length (take end bytes) == 0) ≡ false = grind (arith, nat_tests, length-take-le end bytes) in
    ap (filter (λ w. not (length w == 0))) (cut_at is_blank bytes end h) ∙ word_by (take end bytes) (slice_split is_blank (drop (end + 1) bytes)) (length (take end bytes) == 0) refl some

pub word_at_slice : (words : List Word) (bytes : List ℕ) (end : ℕ) → words ≡ words_in bytes → begins_with_blank bytes ≡ false
    → Some end ≡ position is_blank bytes → words ≡ take end bytes ∷ words_in (take (length bytes - (end + 1)) (drop (end + 1) bytes))
word_at_slice words bytes end is first h = is ∙ word_at bytes end first h ∙ ap (λ x. take end bytes ∷ words_in x) (sym (take_rest bytes (end + 1)))

pub last_word : (words : List Word) (bytes : List ℕ) → words ≡ words_in bytes → (length bytes == 0) ≡ false → None ≡ position is_blank bytes
    → words ≡ bytes ∷ words_in (take (length bytes - length bytes) (drop (length bytes) bytes))
last_word words bytes is some h =
    is ∙ ap (filter (λ w. not (length w == 0))) (whole is_blank bytes h) ∙ word_by bytes [] (length bytes == 0) refl some ∙ ap (λ x. bytes ∷ words_in x) (sym (nothing_left bytes))

pub no_words : (words : List Word) (bytes : List ℕ) → words ≡ words_in bytes → length bytes ≡ 0 → words ≡ []
no_words words [] is e = is
no_words words (b ∷ bytes) is e = absurd (omega (arith, e))
