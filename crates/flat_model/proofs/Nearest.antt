-- The walk from a group up to the root: what its first find says of those before it.
use Rattle.std.proofs.Common.{◌≡◌, ℕ, zero, suc, ◌-◌, ◌<◌, ◌≤◌, Bool, true, false, cond, List, [], ◌∷◌, length, take, get_or, Some, None, refl, sym, ap, ◌∙◌, inl, inr, arith}
use Rattle.std.specs.List.{Contains}
use Rattle.std.proofs.lemmas.List.{length-take-le}
use Rattle.std.proofs.Math.Nat.{eq-or-lt_of_le}
use Rattle.std.proofs.Math.Seq.{take-length}
use Rattle.flat_model.specs.Path.{Path, at_or_below, strictly_below, upward, same_path}
use Rattle.flat_model.specs.Counts.{first_path}
use Rattle.flat_model.proofs.PathLaws.{at_or_below_take, at_or_below_length, same_path_itself, strictly_below_is}
use Rattle.flat_model.proofs.Prefixes.{length-upward, upward_at}

-- the place of the first path that passes; none before it does
pub record IsFirst (test : Path → Bool) (ps : List Path) (a : Path) : Type 0 where
  pub place : ℕ
  pub inside : place < length ps
  pub there : get_or ps place a ≡ a
  pub passes : test a ≡ true
  pub before : (j : ℕ) → j < place → test (get_or ps j a) ≡ false

earlier : (test : Path → Bool) (p a : Path) (ps : List Path) (n : ℕ) → test p ≡ false → ((j : ℕ) → j < n → test (get_or ps j a) ≡ false) → (j : ℕ) → j < suc n → test (get_or (p ∷ ps) j a) ≡ false
earlier test p a ps n t h zero l = t
earlier test p a ps n t h (suc j) l = h j (omega arith)

pub first_path_found : (test : Path → Bool) (ps : List Path) (a : Path) → first_path test ps ≡ Some a → IsFirst test ps a
first_path_found test [] a e = cc
first_path_found test (p ∷ ps) a e =
    elim (test p) as (λ b. test p ≡ b → cond b (Some p) (first_path test ps) ≡ Some a → IsFirst test (p ∷ ps) a) [
      | true ↦ λ t is. let same : p ≡ a = cc in record { place = 0; inside = omega arith; there = same; passes = ap test (sym same) ∙ t; before = λ j h. absurd (omega arith) }
      | false ↦ λ t is. let r = first_path_found test ps a is in
          record { place = suc r.place; inside = omega (arith, r.inside); there = r.there; passes = r.passes; before = earlier test p a ps r.place t r.before }
    ] refl e

none_of : (test : Path → Bool) (p : Path) (ps : List Path) → first_path test (p ∷ ps) ≡ None → (test p ≡ false) × (first_path test ps ≡ None)
none_of test p ps e =
    elim (test p) as (λ b. test p ≡ b → cond b (Some p) (first_path test ps) ≡ None → (test p ≡ false) × (first_path test ps ≡ None)) [
      | true ↦ λ t is. cc
      | false ↦ λ t is. (t, is)
    ] refl e

all_fail : (test : Path → Bool) (ps : List Path) (a : Path) (k : ℕ) → first_path test ps ≡ None → k < length ps → test (get_or ps k a) ≡ false
all_fail test [] a k e l = absurd (omega arith)
all_fail test (p ∷ ps) a zero e l = (none_of test p ps e).0
all_fail test (p ∷ ps) a (suc k) e l = all_fail test ps a k (none_of test p ps e).1 (omega arith)

pub first_path_none : (test : Path → Bool) (ps : List Path) (a : Path) → first_path test ps ≡ None → Contains ps a → test a ≡ false
first_path_none test ps a e h = ap test (sym h.2) ∙ all_fail test ps a h.0 e h.1

-- a group strictly below another has a longer path
pub length_strictly : (b a : Path) → strictly_below b a ≡ true → length a < length b
length_strictly b a h =
    let two = (strictly_below_is b a).0 h in
    elim (eq-or-lt_of_le (at_or_below_length b a two.0)) as (λ _. length a < length b) [
      | inl e ↦ differ e two.0 two.1
      | inr l ↦ l
    ]
  where
    differ : length a ≡ length b → at_or_below b a ≡ true → same_path b a ≡ false → length a < length b
    differ e at apart =
        let same : a ≡ b = at_or_below_take b a at ∙ ap (λ n. take n b) e ∙ take-length b in
        let f : true ≡ false = sym (same_path_itself b) ∙ ap (same_path b) (sym same) ∙ apart in cc

-- no group of the walk below the first find passes
pub first_is_nearest : (test : Path → Bool) (g a b : Path) → first_path test (upward g) ≡ Some a → at_or_below g b ≡ true → strictly_below b a ≡ true → test b ≡ false
first_is_nearest test g a b e h under =
    let f = first_path_found test (upward g) a e in
    let longer = length_strictly b a under in
    let short = at_or_below_length g b h in
    let size = length-upward g in
    let low : f.place ≤ length g = omega (arith, f.inside, size) in
    let a_is : a ≡ take (length g - f.place) g = sym f.there ∙ upward_at g f.place a low in
    let a_len : length a ≡ length g - f.place = ap length a_is ∙ length-take-le (length g - f.place) g (omega arith) in
    let at : length g - length b < f.place = omega (arith, longer, short, a_len, low) in
    let back : length g - (length g - length b) ≡ length b = omega arith in
    let b_is : get_or (upward g) (length g - length b) a ≡ b = upward_at g (length g - length b) a (omega arith) ∙ ap (λ n. take n g) back ∙ sym (at_or_below_take g b h) in
    ap test (sym b_is) ∙ f.before (length g - length b) at
