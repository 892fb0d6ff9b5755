-- Small facts about lists, which proofs of several crates cite.
use Rattle.std.proofs.Common.{◌≡◌, ℕ, List, [], ◌∷◌, ◌++◌, map, reverse, eqb, refl, ap, sym, ◌∙◌}
use Rattle.std.proofs.lemmas.List.{map-append, reverse-append}
use Rattle.std.specs.List.{IsDistinct}

pub reverse_map : {X Y : Type 0} (f : X → Y) (xs : List X) → reverse (map f xs) ≡ map f (reverse xs)
reverse_map f [] = refl
reverse_map f (x ∷ xs) =
    reverse-append (f x ∷ []) (map f xs)
    ∙ ap (λ ys. ys ++ f x ∷ []) (reverse_map f xs)
    ∙ sym (map-append f (reverse xs) (x ∷ []))
    ∙ ap (map f) (sym (reverse-append (x ∷ []) xs))

pub one_distinct : (x : ℕ) → IsDistinct eqb (x ∷ [])
unfolding IsDistinct
one_distinct x = (tt, tt)
