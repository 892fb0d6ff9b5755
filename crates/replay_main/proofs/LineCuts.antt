-- Texts that are cut where a line ends.
use Rattle.std.proofs.Common.{◌≡◌, ◌∙◌, ℕ, ◌+◌, ◌<◌, ◌≤◌, Bool, true, false, List, [], ◌∷◌, ◌++◌, append-nil, length, take, drop, get_or, refl, sym, ap, arith, Some}
use Rattle.std.specs.List.{position, slice_split, onto_first}
use Rattle.std.proofs.lemmas.List.{take_more, drop_more, take-append-drop, take_all, drop_all, length-drop}
use lib.Seq.{get_or-drop}
use Rattle.std.proofs.lemmas.List.Quantifiers.{position-Some}
use Rattle.std.proofs.lemmas.List.Splits.{slice_split-cons_yes, slice_split-cons_no, length-slice_split}
use Rattle.flat_model.specs.Trace.{is_line_feed, lines_in, without_empty_end}

onto_first-append : (x : ℕ) (zs ys : List (List ℕ)) → 0 < length zs → onto_first x (zs ++ ys) ≡ onto_first x zs ++ ys
onto_first-append x [] ys some = absurd (omega (arith, some))
onto_first-append x (z ∷ zs) ys some = refl

some_parts : (text : List ℕ) → 0 < length (slice_split is_line_feed text)
some_parts text = let n = length-slice_split is_line_feed text in omega (arith, n)

-- the parts of a text that is cut behind a line feed
split_cut : (xs : List ℕ) (b : ℕ) (ys : List ℕ) → is_line_feed b ≡ true
    → slice_split is_line_feed (xs ++ b ∷ ys) ≡ slice_split is_line_feed xs ++ slice_split is_line_feed ys
split_cut [] b ys e = slice_split-cons_yes is_line_feed b ys e
split_cut (x ∷ xs) b ys e =
    by (split_cut xs b ys e) (is_line_feed x) refl
  where
    by : slice_split is_line_feed (xs ++ b ∷ ys) ≡ slice_split is_line_feed xs ++ slice_split is_line_feed ys → (t : Bool) → is_line_feed x ≡ t
        → slice_split is_line_feed (x ∷ (xs ++ b ∷ ys)) ≡ slice_split is_line_feed (x ∷ xs) ++ slice_split is_line_feed ys
    by rest true t =
        slice_split-cons_yes is_line_feed x (xs ++ b ∷ ys) t ∙ ap (λ (zs : List (List ℕ)). [] ∷ zs) rest
        ∙ ap (λ zs. zs ++ slice_split is_line_feed ys) (sym (slice_split-cons_yes is_line_feed x xs t))
    by rest false f =
        slice_split-cons_no is_line_feed x (xs ++ b ∷ ys) f ∙ ap (λ zs. onto_first x zs) rest
        ∙ onto_first-append x (slice_split is_line_feed xs) (slice_split is_line_feed ys) (some_parts xs)
        ∙ ap (λ zs. zs ++ slice_split is_line_feed ys) (sym (slice_split-cons_no is_line_feed x xs f))

without_empty_end-append : (xs ys : List (List ℕ)) → 0 < length ys → without_empty_end (xs ++ ys) ≡ xs ++ without_empty_end ys
without_empty_end-append [] ys some = refl
without_empty_end-append (x ∷ []) [] some = absurd (omega (arith, some))
without_empty_end-append (x ∷ []) (y ∷ ys) some = refl
without_empty_end-append (x ∷ z ∷ xs) ys some = ap (λ (t : List (List ℕ)). x ∷ t) (without_empty_end-append (z ∷ xs) ys some)

lines_cut : (xs : List ℕ) (b : ℕ) (ys : List ℕ) → is_line_feed b ≡ true → lines_in (xs ++ b ∷ []) ++ lines_in ys ≡ lines_in (xs ++ b ∷ ys)
lines_cut xs b ys e =
    let parts = slice_split is_line_feed xs in
    let front : lines_in (xs ++ b ∷ []) ≡ parts =
    ap without_empty_end (split_cut xs b [] e) ∙ without_empty_end-append parts ([] ∷ []) (omega arith) ∙ append-nil parts in
    let both : lines_in (xs ++ b ∷ ys) ≡ parts ++ lines_in ys =
    ap without_empty_end (split_cut xs b ys e) ∙ without_empty_end-append parts (slice_split is_line_feed ys) (some_parts ys) in
    ap (λ t. t ++ lines_in ys) front ∙ sym both

-- behind the line feed that is the first from a place on
pub cut_at_line_feed : (text : List ℕ) (before at : ℕ) → before ≤ length text → position is_line_feed (drop before text) ≡ Some at
    → (before + at + 1 ≤ length text) × (lines_in (take (before + at + 1) text) ++ lines_in (drop (before + at + 1) text) ≡ lines_in text)
cut_at_line_feed text before at within found =
    let p = position-Some is_line_feed (drop before text) at 0 found in
    let many = length-drop before text in
    let inside : before + at < length text = omega (arith, many, p.0, within) in
    let n = before + at in
    let b = get_or text n 0 in
    let feed : is_line_feed b ≡ true = ap is_line_feed (sym (get_or-drop before text at 0)) ∙ p.1 in
    let front : take (n + 1) text ≡ take n text ++ b ∷ [] = take_more text n 0 inside in
    let whole : text ≡ take n text ++ b ∷ drop (n + 1) text = sym (take-append-drop n text) ∙ ap (λ t. take n text ++ t) (drop_more text n 0 inside) in (
      omega (arith, inside),
      ap (λ t. lines_in t ++ lines_in (drop (n + 1) text)) front ∙ lines_cut (take n text) b (drop (n + 1) text) feed ∙ ap lines_in (sym whole),
    )

-- at the end
pub cut_at_end : (text : List ℕ) → lines_in (take (length text) text) ++ lines_in (drop (length text) text) ≡ lines_in text
cut_at_end text =
    let none : drop (length text) text ≡ [] = drop_all (length text) text (omega arith) in
    ap (λ t. lines_in (take (length text) text) ++ lines_in t) none ∙ append-nil (lines_in (take (length text) text))
    ∙ ap lines_in (take_all (length text) text (omega arith))
