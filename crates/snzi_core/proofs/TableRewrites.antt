-- A table that is rewritten from its front on.
use Rattle.std.proofs.Common.{◌≡◌, ℕ, zero, suc, ◌+◌, ◌-◌, ◌%◌, ◌^◌, ◌<◌, ◌≤◌, List, [], ◌∷◌, length, set, refl, sym, ap, ◌∙◌, subst, arith, length-set, get_or-set_same, get_or-set_other}
use Rattle.std.proofs.lemmas.Grind.{same_number_lists}
use Rattle.std.specs.Prelude.{slice_index}
use mathlib.Core.Logic.{dite}
use native.Mathlib.Decide.{ℕ_discrete}
use Rattle.snzi_core.specs.Holding.{merged, without, wrapped}
use Rattle.snzi_core.proofs.NumberLists.{at_merged, at_without}

-- below i each number is made of the old one and that of the part, and from i on it is the old one
abbrev pub IsRewritten : (ℕ → ℕ → ℕ) → List ℕ → List ℕ → ℕ → List ℕ → Type 0
IsRewritten f old part i table = (length table ≡ length old)
    × ((j : ℕ) → j < i → slice_index table j ≡ f (slice_index old j) (slice_index part j))
    × ((j : ℕ) → i ≤ j → slice_index table j ≡ slice_index old j)

module _ (f : ℕ → ℕ → ℕ) (old part : List ℕ) where
  pub rewrite_none : IsRewritten f old part 0 old
  rewrite_none = (refl, (λ j h. absurd (omega arith)), λ j h. refl)

  pub rewrite_more : (i y : ℕ) (table : List ℕ) → IsRewritten f old part i table → i < length table → y ≡ f (slice_index table i) (slice_index part i) → IsRewritten f old part (i + 1) (set table i y)
  rewrite_more i y table was inside is = (
    length-set table i y ∙ was.0,
    (λ j h. dite (ℕ_discrete j i)
        (λ e. subst (λ (m : ℕ). slice_index (set table i y) m ≡ f (slice_index old m) (slice_index part m)) (sym e)
        (get_or-set_same table i y 0 inside ∙ is ∙ ap (λ (x : ℕ). f x (slice_index part i)) (was.2 i (omega arith))))
        (λ ne. get_or-set_other table i j y 0 ne ∙ was.1 j (omega arith))),
    (λ j h. get_or-set_other table i j y 0 (λ e. absurd (omega arith)) ∙ was.2 j (omega arith)),
  )

  pub rewrite_all : (i : ℕ) (table target : List ℕ) → IsRewritten f old part i table → length old ≤ i → length target ≡ length old
      → ((j : ℕ) → slice_index target j ≡ f (slice_index old j) (slice_index part j)) → table ≡ target
  rewrite_all i table target was far len at = same_number_lists table target (was.0 ∙ sym len) (λ j h. let e = was.0 in was.1 j (omega arith) ∙ sym (at j))

pub length_without : (xs ys : List ℕ) → length (without xs ys) ≡ length xs
length_without [] ys = refl
length_without (x ∷ xs) [] = refl
length_without (x ∷ xs) (y ∷ ys) = ap suc (length_without xs ys)

pub length_merged : (xs ys : List ℕ) → length ys ≡ length xs → length (merged xs ys) ≡ length xs
length_merged [] [] e = refl
length_merged [] (y ∷ ys) e = absurd (omega arith)
length_merged (x ∷ xs) [] e = refl
length_merged (x ∷ xs) (y ∷ ys) e = ap suc (length_merged xs ys (omega arith))

pub length_wrapped : (xs : List ℕ) → length (wrapped xs) ≡ length xs
length_wrapped [] = refl
length_wrapped (x ∷ xs) = ap suc (length_wrapped xs)

pub at_wrapped : (xs : List ℕ) (i : ℕ) → slice_index (wrapped xs) i ≡ slice_index xs i % 2 ^ 64
at_wrapped [] i = refl
at_wrapped (x ∷ xs) zero = refl
at_wrapped (x ∷ xs) (suc i) = at_wrapped xs i

-- each rewriting, whole
pub is_without : (old part table : List ℕ) (i : ℕ) → length old ≤ i → IsRewritten (λ x y. x - y) old part i table → table ≡ without old part
is_without old part table i far was = rewrite_all (λ x y. x - y) old part i table (without old part) was far (length_without old part) (λ j. at_without old part j)

pub is_merged : (old part table : List ℕ) (i : ℕ) → length old ≤ i → length part ≡ length old → IsRewritten (λ x y. x + y) old part i table → table ≡ merged old part
is_merged old part table i far len was = rewrite_all (λ x y. x + y) old part i table (merged old part) was far (length_merged old part len) (λ j. at_merged old part j)

pub is_wrapped : (old part table : List ℕ) (i : ℕ) → length old ≤ i → length part ≡ length old → IsRewritten (λ x y. (x + y) % 2 ^ 64) old part i table → table ≡ wrapped (merged old part)
is_wrapped old part table i far len was =
    rewrite_all (λ x y. (x + y) % 2 ^ 64) old part i table (wrapped (merged old part)) was far (length_wrapped (merged old part)
    ∙ length_merged old part len) (λ j. at_wrapped (merged old part) j ∙ ap (λ (x : ℕ). x % 2 ^ 64) (at_merged old part j))
