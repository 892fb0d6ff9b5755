-- Counts and sums over lists.
use Rattle.std.proofs.Common.{◌≡◌, ℕ, ◌+◌, Bool, true, false, cond, ◌&&◌, List, [], ◌∷◌, map, refl, sym, ap, ◌∙◌, arith, ◌++◌}
use Rattle.std.specs.Prelude.{count_by, sum_by, filter}
use Rattle.std.proofs.lemmas.List.Sums.{sum_by-cons, sum_by-append}

pub count_by-cons : {X : Type 0} (p : X → Bool) (x : X) (xs : List X) → count_by p (x ∷ xs) ≡ cond (p x) 1 0 + count_by p xs
count_by-cons p x xs = sum_by-cons (λ y. cond (p y) 1 0) x xs

pub count_by-append : {X : Type 0} (p : X → Bool) (xs ys : List X) → count_by p (xs ++ ys) ≡ count_by p xs + count_by p ys
count_by-append p xs ys = sum_by-append (λ y. cond (p y) 1 0) xs ys

pub count_by-map : {X Y : Type 0} (p : Y → Bool) (f : X → Y) (xs : List X) → count_by p (map f xs) ≡ count_by (λ x. p (f x)) xs
count_by-map p f [] = refl
count_by-map p f (x ∷ xs) = count_by-cons p (f x) (map f xs) ∙ ap (λ n. cond (p (f x)) 1 0 + n) (count_by-map p f xs) ∙ sym (count_by-cons (λ y. p (f y)) x xs)

-- a count over what a filter keeps
pub count_by-filter : {X : Type 0} (p q : X → Bool) (xs : List X) → count_by p (filter q xs) ≡ count_by (λ x. q x && p x) xs
count_by-filter p q [] = refl
count_by-filter p q (x ∷ xs) =
    elim (q x) as (λ b. count_by p (cond b (x ∷ filter q xs) (filter q xs)) ≡ cond (b && p x) 1 0 + count_by (λ y. q y && p y) xs) [
      | true ↦ count_by-cons p x (filter q xs) ∙ ap (λ n. cond (p x) 1 0 + n) (count_by-filter p q xs)
      | false ↦ count_by-filter p q xs ∙ (let z : count_by (λ y. q y && p y) xs ≡ 0 + count_by (λ y. q y && p y) xs = omega arith in z)
    ]
    ∙ sym (count_by-cons (λ y. q y && p y) x xs)

pub count_none : {X : Type 0} (p : X → Bool) (xs : List X) → ((x : X) → p x ≡ false) → count_by p xs ≡ 0
count_none p [] h = refl
count_none p (x ∷ xs) h = count_by-cons p x xs ∙ ap (λ b. cond b 1 0 + count_by p xs) (h x) ∙ (let k = count_none p xs h in omega (arith, k))

-- a sum of two
pub sum_by-plus : {X : Type 0} (f g : X → ℕ) (xs : List X) → sum_by (λ x. f x + g x) xs ≡ sum_by f xs + sum_by g xs
sum_by-plus f g [] = omega arith
sum_by-plus f g (x ∷ xs) =
    let a = sum_by-cons (λ y. f y + g y) x xs in
    let b = sum_by-cons f x xs in
    let c = sum_by-cons g x xs in
    let d = sum_by-plus f g xs in omega (arith, a, b, c, d)

pub sum_by-same : {X : Type 0} (f g : X → ℕ) (xs : List X) → ((x : X) → f x ≡ g x) → sum_by f xs ≡ sum_by g xs
sum_by-same f g [] h = refl
sum_by-same f g (x ∷ xs) h = sum_by-cons f x xs ∙ (λ i. h x i + sum_by-same f g xs h i) ∙ sym (sum_by-cons g x xs)

pub sum_by-zero : {X : Type 0} (xs : List X) → sum_by (λ _. 0) xs ≡ 0
sum_by-zero [] = refl
sum_by-zero (x ∷ xs) = sum_by-cons (λ _. 0) x xs ∙ (let h = sum_by-zero xs in omega (arith, h))
