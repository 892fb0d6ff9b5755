-- The groups on the way from the root to p are those that p is at or below.
use Rattle.std.proofs.Common.{◌≡◌, ◌-◌, ◌<◌, true, ◌&&◌, ◌↔◌, List, [], ◌∷◌, ◌++◌, map, reverse, length, get_or, refl, ap, sym, ◌∙◌, subst, suc, arith}
use Rattle.std.specs.List.{All, Contains}
use Rattle.std.proofs.lemmas.List.{get_or-map, get_or-reverse, length-map, length-reverse}
use Rattle.std.proofs.lemmas.List.Elements.{All-nil, All-cons, All-map, All-weaker, All-contains}
use Rattle.flat_model.specs.Path.{Path, at_or_below, prefixes, upward}
use Rattle.flat_model.proofs.PathLaws.{at_or_below_is, same_name_itself}

-- the first of a list is among it, and so is what its rest has
contains_first : {X : Type 0} (x : X) (xs : List X) → Contains (x ∷ xs) x
contains_first x xs = (0, omega arith, refl)

contains_later : {X : Type 0} (x y : X) (xs : List X) → Contains xs y → Contains (x ∷ xs) y
contains_later x y xs h = (suc h.0, omega (arith, h.1), h.2)

-- what a list has, its image under f has the image of
contains_map : {X Y : Type 0} (f : X → Y) (xs : List X) (x : X) → Contains xs x → Contains (map f xs) (f x)
contains_map f xs x h = (h.0, subst (λ n. h.0 < n) (sym (length-map xs f)) h.1, get_or-map f xs h.0 x (f x) h.1 ∙ ap f h.2)

-- every front of p is above p
prefixes_above : (p : Path) → All (λ q. at_or_below p q ≡ true) (prefixes p)
prefixes_above [] = All-cons (λ q. at_or_below [] q ≡ true) [] [] refl (All-nil (λ q. at_or_below [] q ≡ true))
prefixes_above (n ∷ p) =
    All-cons (λ q. at_or_below (n ∷ p) q ≡ true) [] (map (λ q. n ∷ q) (prefixes p)) refl
    (All-map (λ q. at_or_below (n ∷ p) q ≡ true) (λ q. n ∷ q) (prefixes p)
    (All-weaker (λ q. at_or_below p q ≡ true) (λ q. at_or_below (n ∷ p) (n ∷ q) ≡ true) (λ q h. ap (λ b. b && at_or_below p q) (same_name_itself n) ∙ h) (prefixes p) (prefixes_above p)))

-- the root is the first of them
root_first : (p : Path) → Contains (prefixes p) []
root_first [] = contains_first [] []
root_first (n ∷ p) = contains_first [] (map (λ q. n ∷ q) (prefixes p))

-- q is among the groups on the way to what stands behind q: by its names, one after another
front_among : (q rest : Path) → Contains (prefixes (q ++ rest)) q
front_among [] rest = root_first rest
front_among (m ∷ q) rest = contains_later [] (m ∷ q) (map (λ q. m ∷ q) (prefixes (q ++ rest))) (contains_map (λ q. m ∷ q) (prefixes (q ++ rest)) q (front_among q rest))

-- the groups on the way down
pub prefixes_are : (p q : Path) → Contains (prefixes p) q ↔ (at_or_below p q ≡ true)
prefixes_are p q = (
  All-contains (λ q. at_or_below p q ≡ true) (prefixes p) q (prefixes_above p),
  λ h. let s = (at_or_below_is p q).0 h in subst (λ (x : Path). Contains (prefixes x) q) (sym s.1) (front_among q s.0),
)

-- a list and its reverse have the same members
contains_reverse : {X : Type 0} (xs : List X) (x : X) → Contains xs x ↔ Contains (reverse xs) x
contains_reverse xs x = (
  λ h.
      let k : h.0 < length xs = h.1 in
      let at : length xs - 1 - h.0 < length xs = omega arith in
      let back : length xs - 1 - (length xs - 1 - h.0) ≡ h.0 = omega arith in
      (length xs - 1 - h.0, subst (λ n. length xs - 1 - h.0 < n) (sym (length-reverse xs)) at, get_or-reverse xs (length xs - 1 - h.0) x at ∙ ap (λ n. get_or xs n x) back ∙ h.2),
  λ h.
      let k : h.0 < length xs = subst (λ n. h.0 < n) (length-reverse xs) h.1 in
      (length xs - 1 - h.0, omega arith, sym (get_or-reverse xs h.0 x k) ∙ h.2),
)

-- the same groups on the way up
pub upward_are : (p q : Path) → Contains (upward p) q ↔ (at_or_below p q ≡ true)
upward_are p q =
    let r = contains_reverse (prefixes p) q in
    let m = prefixes_are p q in
    (λ h. m.0 (r.1 h), λ h. r.0 (m.1 h))
