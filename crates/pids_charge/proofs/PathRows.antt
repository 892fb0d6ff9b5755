-- A row that keeps a path is the row of that path: what is read, and what a change leaves.
use Rattle.std.proofs.Common.{◌≡◌, ◌≢◌, ℕ, zero, suc, ◌<◌, ◌⊎◌, inl, inr, Bool, true, false, cond, eqb, Option, Some, None, List, [], ◌∷◌, length, get_or, option_map, refl, sym, ap, ◌∙◌}
use Rattle.std.proofs.lemmas.Bool.{false≢true, eqb-true, eq-eqb}
use Rattle.std.proofs.lemmas.List.{get_or-set_other}
use Rattle.std.proofs.lemmas.Grind.{get_or-set_at}
use Rattle.std.proofs.Math.ListN.{set}
use Rattle.std.specs.Ordering.{eq_by_cmp}
use Rattle.std.specs.FinMap as fin
use Rattle.flat_model.specs.Path.{Path, path_cmp}
use Rattle.flat_model.proofs.Maps.{get-own}
use Rattle.flat_model.proofs.PathLaws.{path_cmp-IsTotalOrder, path_cmp-IsAntisymmetric, same_path_is}
use Rattle.group_tree.specs.Groups.{Groups}
use Rattle.group_tree.specs.declared.attr.Attr.{Attr}
use Rattle.pids_charge.specs.GroupRows.{KeepsPaths}
use Rattle.pids_charge.proofs.Changes.{which}

same_value : {X : Type 0} (a b : X) → ◌≡◌ {A = Option X} (Some a) (Some b) → a ≡ b
same_value a b e = cc

abbrev number : Option Attr → Option ℕ
number o = option_map (λ a. a.slot) o

-- the group, as the tree has it
pub numbered : (o : Option Attr) (row : ℕ) → option_map (λ a. a.slot) o ≡ Some row → (a : Attr) × (o ≡ Some a) × (a.slot ≡ row)
numbered None row e = cc
numbered (Some a) row e = (a, refl, same_value a.slot row e)

pub none_kept : (tree : Groups) (kept : List (Option Path)) → ((k : ℕ) → get_or kept k None ≡ None) → KeepsPaths tree kept
none_kept tree kept none = λ row p e. let gone : ◌≡◌ {A = Option Path} (Some p) None = sym e ∙ none row in cc

-- the same paths are read
pub kept_alike : (tree : Groups) (kept after : List (Option Path)) → ((k : ℕ) → get_or after k None ≡ get_or kept k None) → KeepsPaths tree kept → KeepsPaths tree after
kept_alike tree kept after same h = λ row p e. h row p (sym (same row) ∙ e)

none_at : (kept : List (Option Path)) (k : ℕ) → get_or (set kept k None) k None ≡ None
none_at [] k = refl
none_at (x ∷ kept) zero = refl
none_at (x ∷ kept) (suc k) = none_at kept k

-- which of two rows it is
same_row : (row k : ℕ) → (row ≡ k) ⊎ (row ≢ k)
same_row row k = elim (eqb row k) as (λ b. eqb row k ≡ b → (row ≡ k) ⊎ (row ≢ k)) [
  | true ↦ λ t. inl (eqb-true row k t)
  | false ↦ λ t. inr (λ e. false≢true (sym t ∙ eq-eqb row k e))
] refl

module _ (tree : Groups) (kept : List (Option Path)) (h : KeepsPaths tree kept) (p : Path) where
  -- a group is made, and its row keeps its path
  pub kept_made : (x : Attr) → fin.get tree p ≡ None → (new : Groups) → new ≡ fin.insert tree p x → (long : List (Option Path))
      → ((k : ℕ) → get_or long k None ≡ get_or kept k None) → x.slot < length long → KeepsPaths new (set long x.slot (Some p))
  kept_made x absent new is long same inside = λ row q e. ap (λ (m : Groups). number (fin.get m q)) is ∙ by row q e (same_row row x.slot)
    where
      other : (row : ℕ) (q : Path) → number (fin.get tree q) ≡ Some row
          → ((q ≡ p) × (fin.get (fin.insert tree p x) q ≡ Some x)) ⊎ ((q ≡ p → ⊥) × (fin.get (fin.insert tree p x) q ≡ fin.get tree q))
          → number (fin.get (fin.insert tree p x) q) ≡ Some row
      other row q was (inl w) = let none : ◌≡◌ {A = Option ℕ} (Some row) None = sym was ∙ ap number (ap (fin.get tree) w.0 ∙ absent) in cc
      other row q was (inr w) = ap number w.1 ∙ was

      by : (row : ℕ) (q : Path) → get_or (set long x.slot (Some p)) row None ≡ Some q → (row ≡ x.slot) ⊎ (row ≢ x.slot) → number (fin.get (fin.insert tree p x) q) ≡ Some row
      by row q e (inl at) =
          let own : p ≡ q = same_value p q (sym (get_or-set_at long x.slot row (Some p) None at inside) ∙ e) in
          ap number (ap (fin.get (fin.insert tree p x)) (sym own) ∙ get-own path_cmp-IsTotalOrder path_cmp-IsAntisymmetric tree p x) ∙ ap Some (sym at)
      by row q e (inr apart) =
          other row q (h row q (sym (same row) ∙ sym (get_or-set_other long x.slot row (Some p) None apart) ∙ e)) (which tree p x q)

  -- a group is removed, and its row keeps no path
  pub kept_left : (a : Attr) → fin.get tree p ≡ Some a → (new : Groups) → new ≡ fin.remove tree p → (after : List (Option Path))
      → ((k : ℕ) → get_or after k None ≡ get_or (set kept a.slot None) k None) → KeepsPaths new after
  kept_left a here new is after same = λ row q e. ap (λ (m : Groups). number (fin.get m q)) is ∙ by row q e (same_row row a.slot)
    where
      other : (row : ℕ) (q : Path) → row ≢ a.slot → number (fin.get tree q) ≡ Some row → (b : Bool) → eq_by_cmp path_cmp q p ≡ b
          → fin.get (fin.remove tree p) q ≡ cond b None (fin.get tree q) → number (fin.get (fin.remove tree p) q) ≡ Some row
      other row q apart was true t e =
          absurd (apart (same_value row a.slot (sym was ∙ ap number (ap (fin.get tree) ((same_path_is q p).0 t) ∙ here))))
      other row q apart was false t e = ap number e ∙ was

      by : (row : ℕ) (q : Path) → get_or after row None ≡ Some q → (row ≡ a.slot) ⊎ (row ≢ a.slot) → number (fin.get (fin.remove tree p) q) ≡ Some row
      by row q e (inl at) =
          let gone : ◌≡◌ {A = Option Path} (Some q) None =
          sym e ∙ same row ∙ ap (λ k. get_or (set kept a.slot None) k None) at ∙ none_at kept a.slot in cc
      by row q e (inr apart) =
          other row q apart (h row q (sym (get_or-set_other kept a.slot row None None apart) ∙ sym (same row) ∙ e))
          (eq_by_cmp path_cmp q p) refl (fin.get-remove path_cmp-IsTotalOrder tree p q)
