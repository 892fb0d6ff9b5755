-- The members of a list, one after another.
use Rattle.std.proofs.Common.{◌≡◌, zero, suc, Bool, true, false, cond, ◌||◌, ◌⊎◌, inl, inr, List, [], ◌∷◌, ◌++◌, map, flat_map, refl, ap, sym, ◌∙◌, subst, arith}
use Rattle.std.specs.List.{Contains, filter, list_any}
use Rattle.flat_model.specs.Path.{Path, same_path}
use Rattle.flat_model.proofs.PathLaws.{same_path_is}

abbrev pub Among : {X : Type 0} → List X → X → Type 0
Among [] x = ⊥
Among (y ∷ ys) x = (y ≡ x) ⊎ Among ys x

pub contains_among : {X : Type 0} (xs : List X) (x : X) → Among xs x → Contains xs x
contains_among [] x h = absurd h
contains_among (y ∷ ys) x (inl e) = (0, omega arith, e)
contains_among (y ∷ ys) x (inr h) =
    let c = contains_among ys x h in
    let lt = c.1 in (suc c.0, omega arith, c.2)

pub among_contains : {X : Type 0} (xs : List X) (x : X) → Contains xs x → Among xs x
among_contains [] x (k, l, e) = absurd (omega (arith, l))
among_contains (y ∷ ys) x (zero, l, e) = inl e
among_contains (y ∷ ys) x (suc k, l, e) = inr (among_contains ys x (k, omega (arith, l), e))

-- ---- of two lists, one behind the other

pub among_front : {X : Type 0} (xs ys : List X) (x : X) → Among xs x → Among (xs ++ ys) x
among_front [] ys x h = absurd h
among_front (y ∷ xs) ys x (inl e) = inl e
among_front (y ∷ xs) ys x (inr h) = inr (among_front xs ys x h)

pub among_back : {X : Type 0} (xs ys : List X) (x : X) → Among ys x → Among (xs ++ ys) x
among_back [] ys x h = h
among_back (y ∷ xs) ys x h = inr (among_back xs ys x h)

pub among_either : {X : Type 0} (xs ys : List X) (x : X) → Among (xs ++ ys) x → Among xs x ⊎ Among ys x
among_either [] ys x h = inr h
among_either (y ∷ xs) ys x (inl e) = inl (inl e)
among_either (y ∷ xs) ys x (inr h) = elim (among_either xs ys x h) as (λ _. Among (y ∷ xs) x ⊎ Among ys x) [ inl a ↦ inl (inr a) | inr b ↦ inr b ]

-- ---- of a list of lists

pub among_flat : {X Y : Type 0} (f : X → List Y) (xs : List X) (x : X) (y : Y) → Among xs x → Among (f x) y → Among (flat_map f xs) y
among_flat f [] x y h k = absurd h
among_flat f (z ∷ xs) x y (inl e) k = among_front (f z) (flat_map f xs) y (subst (λ w. Among (f w) y) (sym e) k)
among_flat f (z ∷ xs) x y (inr h) k = among_back (f z) (flat_map f xs) y (among_flat f xs x y h k)

pub flat_among : {X Y : Type 0} (f : X → List Y) (xs : List X) (y : Y) → Among (flat_map f xs) y → (x : X) × Among xs x × Among (f x) y
flat_among f [] y h = absurd h
flat_among f (z ∷ xs) y h = elim (among_either (f z) (flat_map f xs) y h) as (λ _. (x : _) × Among (z ∷ xs) x × Among (f x) y) [
  | inl a ↦ (z, inl refl, a)
  | inr b ↦ (let r = flat_among f xs y b in (r.0, inr r.1, r.2))
]

-- ---- of images

pub among_map : {X Y : Type 0} (f : X → Y) (xs : List X) (x : X) → Among xs x → Among (map f xs) (f x)
among_map f [] x h = absurd h
among_map f (z ∷ xs) x (inl e) = inl (ap f e)
among_map f (z ∷ xs) x (inr h) = inr (among_map f xs x h)

pub map_among : {X Y : Type 0} (f : X → Y) (xs : List X) (y : Y) → Among (map f xs) y → (x : X) × Among xs x × (f x ≡ y)
map_among f [] y h = absurd h
map_among f (z ∷ xs) y (inl e) = (z, inl refl, e)
map_among f (z ∷ xs) y (inr h) = let r = map_among f xs y h in (r.0, inr r.1, r.2)

-- ---- of those that pass a test

pub among_filter : {X : Type 0} (test : X → Bool) (xs : List X) (x : X) → Among xs x → test x ≡ true → Among (filter test xs) x
among_filter test [] x h t = absurd h
among_filter test (z ∷ xs) x (inl e) t = subst (λ b. Among (cond b (z ∷ filter test xs) (filter test xs)) x) (sym (ap test e ∙ t)) (inl e)
among_filter test (z ∷ xs) x (inr h) t =
    let r = among_filter test xs x h t in
    elim (test z) as (λ b. Among (cond b (z ∷ filter test xs) (filter test xs)) x) [ true ↦ inr r | false ↦ r ]

pub filter_among : {X : Type 0} (test : X → Bool) (xs : List X) (x : X) → Among (filter test xs) x → Among xs x × (test x ≡ true)
filter_among test [] x h = absurd h
filter_among test (z ∷ xs) x h =
    elim (test z) as (λ b. test z ≡ b → Among (cond b (z ∷ filter test xs) (filter test xs)) x → Among (z ∷ xs) x × (test x ≡ true)) [
      | true ↦ λ t k. elim k as (λ _. Among (z ∷ xs) x × (test x ≡ true)) [
        | inl e ↦ (inl e, sym (ap test e) ∙ t)
        | inr r ↦ (let f = filter_among test xs x r in (inr f.0, f.1))
      ]
      | false ↦ λ t k. let f = filter_among test xs x k in (inr f.0, f.1)
    ] refl h

-- ---- by a test

pub any_among : (q : Path) (ks : List Path) → list_any (same_path q) ks ≡ true → Among ks q
any_among q [] h = cc
any_among q (k ∷ ks) h =
    elim (same_path q k) as (λ b. same_path q k ≡ b → (b || list_any (same_path q) ks) ≡ true → Among (k ∷ ks) q) [
      | true ↦ λ t _. inl (sym ((same_path_is q k).0 t))
      | false ↦ λ _ r. inr (any_among q ks r)
    ] refl h

pub among_any : (q : Path) (ks : List Path) → Among ks q → list_any (same_path q) ks ≡ true
among_any q [] h = absurd h
among_any q (k ∷ ks) (inl e) = ap (λ b. b || list_any (same_path q) ks) ((same_path_is q k).1 (sym e))
among_any q (k ∷ ks) (inr h) = elim (same_path q k) as (λ b. (b || list_any (same_path q) ks) ≡ true) [ true ↦ refl | false ↦ among_any q ks h ]
