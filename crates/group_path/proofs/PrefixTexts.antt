-- The text of a path's first names begins the text of the path.
use Rattle.std.proofs.Common.{◌≡◌, ℕ, ◌-◌, cond, List, [], ◌∷◌, ◌++◌, length, take, drop, zero, suc, refl, ap, sym, ◌∙◌, None, Some, take-append-drop}
use Rattle.std.proofs.Math.Seq.{take-append_seam}
use Rattle.flat_model.specs.Path.{Path, is_root, parent}
use Rattle.flat_model.specs.PathText.{IsPath, names_in, spelled, path_text, path_fault}
use Rattle.flat_model.proofs.PathTextLaws.{names_in-path_text, path_fault-path_text}
use Rattle.flat_model.proofs.PathTextLawsChild.{spelled-append, IsPath-take}

-- the bytes that spell the first names come first
front_text : (n : ℕ) (p : Path) → take (length (path_text (take n p))) (path_text p) ≡ path_text (take n p)
front_text zero [] = refl
front_text zero (m ∷ p) = refl
front_text (suc n) [] = refl
front_text (suc n) (m ∷ p) =
    let whole : spelled (m ∷ p) ≡ spelled (m ∷ take n p) ++ spelled (drop n p) =
    ap (λ (x : Path). spelled (m ∷ x)) (sym (take-append-drop n p)) ∙ spelled-append (m ∷ take n p) (drop n p) in
    ap (take (length (spelled (m ∷ take n p)))) whole ∙ take-append_seam (spelled (m ∷ take n p)) (spelled (drop n p))

-- so the front of a text is the text of the first names
front_is : (text front : List ℕ) (p : Path) (n len : ℕ) → text ≡ path_text p → len ≡ length (path_text (take n p)) → front ≡ take len text → front ≡ path_text (take n p)
front_is text front p n len t l f = f ∙ (λ i. take (l i) (t i)) ∙ front_text n p

-- what is left of a path's text by keeping n names
pub front_faultless : (text front : List ℕ) (p : Path) (n len : ℕ) → text ≡ path_text p → IsPath p → len ≡ length (path_text (take n p)) → front ≡ take len text → path_fault front ≡ None
front_faultless text front p n len t h l f = ap path_fault (front_is text front p n len t l f) ∙ path_fault-path_text (take n p) (IsPath-take n p h)

-- its names are the first names
pub front_names : (text front : List ℕ) (p : Path) (n len : ℕ) → text ≡ path_text p → IsPath p → len ≡ length (path_text (take n p)) → front ≡ take len text → names_in front ≡ take n p
front_names text front p n len t h l f = ap names_in (front_is text front p n len t l f) ∙ names_in-path_text (take n p) (IsPath-take n p h)

-- where there are names there is a parent
pub some_parent : (p q : Path) (depth : ℕ) → depth ≡ length p → (depth ≡ 0 → ⊥) → q ≡ take (depth - 1) p → Some q ≡ cond (is_root p) None (Some (parent p))
some_parent [] q depth e some h = absurd (some e)
some_parent (n ∷ p) q depth e some h = ap Some (h ∙ ap (λ d. take (d - 1) (n ∷ p)) e)
