-- Lists in the order of their members, and two such lists with the same members.
use Rattle.std.proofs.Common.{◌≡◌, Bool, true, false, cond, T, inl, inr, List, [], ◌∷◌, ◌++◌, map, flat_map, get_or, refl, ap, sym, ◌∙◌, arith}
use Rattle.std.specs.List.{filter, AllPairs}
use Rattle.std.proofs.lemmas.List.Elements.{Contains-get_or}
use Rattle.std.proofs.lemmas.List.Kept.{AllPairs-cons}
use Rattle.std.specs.Cmp.{IsTotalOrder}
use Rattle.std.specs.Ordering.{is_lt, ordering_reverse}
use Rattle.std.specs.declared.cmp.Ordering.{Ordering}
use Rattle.std.specs.declared.cmp.Ordering.TheVariants.{Less, Equal, Greater}
use Rattle.std.specs.FinMap.{is_sorted}
use Rattle.std.specs.FinMap.Entries.{below_all}
use Rattle.listing_laws.proofs.Members.{Among, among_contains, among_either, flat_among, filter_among}
use Rattle.flat_model.proofs.Booleans.{both}

-- each member is below all that come behind it
abbrev pub Ascends : {X : Type 0} → (X → X → Ordering) → List X → Type 0
Ascends R [] = Unit {0}
Ascends {X} R (x ∷ xs) = ((y : X) → Among xs y → R x y ≡ Less) × Ascends R xs

less_by : (r : Ordering) → T (is_lt r) → r ≡ Less
less_by Less h = refl
less_by Equal h = absurd h
less_by Greater h = absurd h

-- ---- keys, those that pass a test, and one list behind another

below_keys : {K X : Type 0} (R : K → K → Ordering) (k : K) (es : List (K × X)) → T (below_all R k es) → (y : K) → Among (map (λ e. e.0) es) y → R k y ≡ Less
below_keys R k [] h y a = absurd a
below_keys R k (e ∷ es) h y (inl is) = ap (R k) (sym is) ∙ less_by (R k e.0) (both (is_lt (R k e.0)) (below_all R k es) h).0
below_keys R k (e ∷ es) h y (inr a) = below_keys R k es (both (is_lt (R k e.0)) (below_all R k es) h).1 y a

pub ascends_keys : {K X : Type 0} (R : K → K → Ordering) (es : List (K × X)) → T (is_sorted R es) → Ascends R (map (λ e. e.0) es)
ascends_keys R [] h = tt
ascends_keys R (e ∷ es) h = let two = both (below_all R e.0 es) (is_sorted R es) h in (below_keys R e.0 es two.0, ascends_keys R es two.1)

pub ascends_filter : {X : Type 0} (R : X → X → Ordering) (test : X → Bool) (xs : List X) → Ascends R xs → Ascends R (filter test xs)
ascends_filter R test [] h = tt
ascends_filter R test (x ∷ xs) h =
    let rest = ascends_filter R test xs h.1 in
    elim (test x) as (λ b. Ascends R (cond b (x ∷ filter test xs) (filter test xs))) [
      | true ↦ (λ y a. h.0 y (filter_among test xs y a).0, rest)
      | false ↦ rest
    ]

pub ascends_append : {X : Type 0} (R : X → X → Ordering) (xs ys : List X) → Ascends R xs → Ascends R ys → ((x y : X) → Among xs x → Among ys y → R x y ≡ Less) → Ascends R (xs ++ ys)
ascends_append R [] ys h k apart = k
ascends_append R (x ∷ xs) ys h k apart = (
  λ y a. elim (among_either xs ys y a) as (λ _. R x y ≡ Less) [ inl l ↦ h.0 y l | inr r ↦ apart x y (inl refl) r ],
  ascends_append R xs ys h.1 k (λ v y l r. apart v y (inr l) r),
)

pub ascends_flat : {X Y : Type 0} (Q : X → X → Ordering) (R : Y → Y → Ordering) (f : X → List Y) (xs : List X) → Ascends Q xs → ((x : X) → Ascends R (f x))
    → ((x z : X) → Q x z ≡ Less → (u v : Y) → Among (f x) u → Among (f z) v → R u v ≡ Less) → Ascends R (flat_map f xs)
ascends_flat Q R f [] h own apart = tt
ascends_flat Q R f (x ∷ xs) h own apart =
    ascends_append R (f x) (flat_map f xs) (own x) (ascends_flat Q R f xs h.1 own apart)
    (λ u v a b. let d = flat_among f xs v b in apart x d.0 (h.0 d.0 d.1) u v a d.2)

-- each is below each later one, by their places
pub ascends_pairs : {X : Type 0} (R : X → X → Ordering) (xs : List X) → Ascends R xs → AllPairs (λ x y. R x y ≡ Less) xs
ascends_pairs R [] h = λ i j d l k. absurd (omega (arith, k))
ascends_pairs R (x ∷ xs) h =
    AllPairs-cons (λ x y. R x y ≡ Less) x xs
    (λ k d l. h.0 (get_or xs k d) (among_contains xs (get_or xs k d) (Contains-get_or xs k d l)))
    (ascends_pairs R xs h.1)

-- ---- two lists in order

module _ {X : Type 0} (R : X → X → Ordering) (o : IsTotalOrder R) where
  not_both : (x y : X) → R x y ≡ Less → R y x ≡ Less → ⊥
  not_both x y h k = let f : Less ≡ Greater = sym h ∙ o.antisymm x y ∙ ap ordering_reverse k in cc

  heads : (x y : X) (xs ys : List X) → Ascends R (x ∷ xs) → Ascends R (y ∷ ys) → Among (y ∷ ys) x → Among (x ∷ xs) y → x ≡ y
  heads x y xs ys h k (inl e) b = sym e
  heads x y xs ys h k (inr a) (inl e) = e
  heads x y xs ys h k (inr a) (inr b) = absurd (not_both x y (h.0 y b) (k.0 x a))

  -- what is behind the first of the one is behind the first of the other
  tails : (x y : X) (xs ys : List X) → Ascends R (x ∷ xs) → x ≡ y → ((q : X) → Among (x ∷ xs) q → Among (y ∷ ys) q) → (q : X) → Among xs q → Among ys q
  tails x y xs ys h e has q a =
      elim (has q (inr a)) as (λ _. Among ys q) [
        | inl is ↦ (let l : R x x ≡ Less = ap (R x) (e ∙ is) ∙ h.0 q a in absurd (not_both x x l l))
        | inr b ↦ b
      ]

  pub same_lists : (xs ys : List X) → Ascends R xs → Ascends R ys → ((q : X) → Among xs q → Among ys q) → ((q : X) → Among ys q → Among xs q) → xs ≡ ys
  same_lists [] [] h k to back = refl
  same_lists [] (y ∷ ys) h k to back = absurd (back y (inl refl))
  same_lists (x ∷ xs) [] h k to back = absurd (to x (inl refl))
  same_lists (x ∷ xs) (y ∷ ys) h k to back =
      let first = heads x y xs ys h k (to x (inl refl)) (back y (inl refl)) in
      let rest = same_lists xs ys h.1 k.1 (tails x y xs ys h first to) (tails y x ys xs k (sym first) back) in
      λ i. first i ∷ rest i
