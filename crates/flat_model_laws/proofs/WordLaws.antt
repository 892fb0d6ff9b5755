-- Words: they are read back from their join with blanks, and a trim leaves them.
use Rattle.std.proofs.Common.{◌≡◌, ℕ, suc, zero, ◌+◌, ◌<◌, ◌-◌, Bool, true, false, cond, not, ◌&&◌, ◌==◌, List, [], ◌∷◌, ◌++◌, length, get_or, drop, take, refl, ap, ◌∙◌, arith, filter}
use Rattle.std.specs.List.{join_with_byte, slice_split, onto_first, prefix_len}
use Rattle.std.proofs.lemmas.Bool.{and_parts, not-true, ne_eqb}
use Rattle.std.proofs.lemmas.Bool.Decides.{nat_tests}
use Rattle.std.proofs.lemmas.List.{take_all}
use Rattle.std.proofs.lemmas.List.Sums.{suffix_len_is}
use Rattle.flat_model.specs.Values.{is_space, without_front, without_end, trimmed}
use Rattle.flat_model.specs.Trace.{Word, is_blank, words_in}

-- no byte is a space
abbrev pub is_plain : List ℕ → Bool
is_plain [] = true
is_plain (b ∷ bytes) = not (is_space b) && is_plain bytes

abbrev pub is_word : Word → Bool
is_word [] = false
is_word (b ∷ bytes) = is_plain (b ∷ bytes)

abbrev pub are_words : List Word → Bool
are_words [] = true
are_words (w ∷ ws) = is_word w && are_words ws

first_plain : (b : ℕ) (bytes : List ℕ) → is_plain (b ∷ bytes) ≡ true → is_space b ≡ false
first_plain b bytes h = not-true (is_space b) (and_parts (not (is_space b)) (is_plain bytes) h).0

rest_plain : (b : ℕ) (bytes : List ℕ) → is_plain (b ∷ bytes) ≡ true → is_plain bytes ≡ true
rest_plain b bytes h = (and_parts (not (is_space b)) (is_plain bytes) h).1

word_plain : (w : Word) → is_word w ≡ true → is_plain w ≡ true
word_plain [] h = refl
word_plain (b ∷ bytes) h = h

not_blank : (b : ℕ) → is_space b ≡ false → is_blank b ≡ false
not_blank b h = grind (arith, nat_tests)

-- ---- words of joined words

-- a word ends at the first blank
split_word : (w : Word) (rest : List ℕ) → is_plain w ≡ true → slice_split is_blank (w ++ 0x20 ∷ rest) ≡ w ∷ slice_split is_blank rest
split_word [] rest h = refl
split_word (b ∷ w) rest h =
    let parts = slice_split is_blank (w ++ 0x20 ∷ rest) in
    ap (λ t. cond t ([] ∷ parts) (onto_first b parts)) (not_blank b (first_plain b w h))
    ∙ ap (onto_first b) (split_word w rest (rest_plain b w h))

split_last : (w : Word) → is_plain w ≡ true → slice_split is_blank w ≡ w ∷ []
split_last [] h = refl
split_last (b ∷ w) h =
    let parts = slice_split is_blank w in
    ap (λ t. cond t ([] ∷ parts) (onto_first b parts)) (not_blank b (first_plain b w h))
    ∙ ap (onto_first b) (split_last w (rest_plain b w h))

abbrev has_bytes : Word → Bool
has_bytes w = not (length w == 0)

word_has_bytes : (w : Word) → is_word w ≡ true → has_bytes w ≡ true
word_has_bytes [] h = cc
word_has_bytes (b ∷ w) h = ap not (ne_eqb (length (b ∷ w)) 0 (λ e. omega arith))

kept : (w : Word) (ws : List Word) → is_word w ≡ true → filter has_bytes (w ∷ ws) ≡ w ∷ filter has_bytes ws
kept w ws h = ap (λ t. cond t (w ∷ filter has_bytes ws) (filter has_bytes ws)) (word_has_bytes w h)

pub words_in-joined : (ws : List Word) → are_words ws ≡ true → words_in (join_with_byte 0x20 ws) ≡ ws
words_in-joined [] h = refl
words_in-joined (w ∷ []) h =
    let p = and_parts (is_word w) true h in
    ap (filter has_bytes) (split_last w (word_plain w p.0)) ∙ kept w [] p.0
words_in-joined (w ∷ v ∷ ws) h =
    let p = and_parts (is_word w) (are_words (v ∷ ws)) h in
    ap (filter has_bytes) (split_word w (join_with_byte 0x20 (v ∷ ws)) (word_plain w p.0))
    ∙ kept w (slice_split is_blank (join_with_byte 0x20 (v ∷ ws))) p.0
    ∙ ap (λ (x : List Word). w ∷ x) (words_in-joined (v ∷ ws) p.1)

-- ---- a trim

plain_at : (w : Word) (k : ℕ) → is_plain w ≡ true → k < length w → is_space (get_or w k 0) ≡ false
plain_at [] k h l = absurd (omega arith)
plain_at (b ∷ w) zero h l = first_plain b w h
plain_at (b ∷ w) (suc k) h l = plain_at w k (rest_plain b w h) (omega arith)

front_stays : (w : Word) → is_plain w ≡ true → without_front w ≡ w
front_stays [] h = refl
front_stays (b ∷ w) h = ap (λ t. drop (cond t (1 + prefix_len is_space w) 0) (b ∷ w)) (first_plain b w h)

end_stays : (w : Word) → is_plain w ≡ true → without_end w ≡ w
end_stays w h =
    let none = suffix_len_is is_space w (length w) 0 (omega arith) (λ k low high. absurd (omega arith)) (λ some. plain_at w (length w - 1) h (omega arith)) in
    ap (λ n. take (length w - n) w) none ∙ take_all (length w - (length w - length w)) w (omega arith)

pub trimmed-plain : (w : Word) → is_plain w ≡ true → trimmed w ≡ w
trimmed-plain w h = ap without_end (front_stays w h) ∙ end_stays w h
