-- What is read of groups and processes.
use Rattle.std.proofs.Common.{◌≡◌, ℕ, ◌<◌, ◌↔◌, ◌++◌, ◌∷◌, [], List, Bool, true, false, cond, ltb, IsTrue, Option, Some, None, IsSome}
use Rattle.std.proofs.Common.{is_some, IfSome, MatchOption, map, filter, refl, sym, ap, ◌∙◌, append_assoc, arith}
use Rattle.std.proofs.lemmas.Bool.Decides.{nat_tests}
use Rattle.std.specs.Ordering.{nat_cmp}
use Rattle.std.specs.List.Sorted.{IsStrictlySortedBy}
use Rattle.std.specs.Map.{keys_of}
use Rattle.std.specs.FinMap as fin
use Rattle.flat_model.specs.Path.{Path, same_path}
use Rattle.flat_model.specs.State.{State}
use Rattle.flat_model.specs.Counts.{members}
use Rattle.group_tree.specs.Groups.{Groups}
use Rattle.group_tree.specs.declared.attr.Attr.{Attr}
use Rattle.pids_charge.specs.Lists.{Row}
use Rattle.pids_charge.specs.Recount.{state_of}
use Rattle.pids_charge.proofs.Entries.{home_row, home_rows, to_sorted, filter-map}

-- an answer is there exactly where the group is
pub matched : (o : Option ℕ) (m : Option Attr) (P : ℕ → Type 0) → MatchOption o (m ≡ None) (λ n. IsSome m × P n) → is_some o ≡ is_some m
matched None m P h = ap is_some (sym h)
matched (Some n) None P h = let there = h.0 in cc
matched (Some n) (Some a) P h = refl

-- and it holds of the group
pub told : (o : Option ℕ) (m : Option Attr) (P : ℕ → Type 0) → MatchOption o (m ≡ None) (λ n. IsSome m × P n) → IfSome o P
told None m P h = tt
told (Some n) m P h = h.1

pub is_positive : (b : Bool) (n m : ℕ) → IsTrue b ↔ (0 < n) → n ≡ m → b ≡ ltb 0 m
is_positive true n m h e = let pos : 0 < n = h.0 refl in grind (arith, nat_tests, pos, e)
is_positive false n m h e =
    elim (ltb 0 m) as (λ c. ltb 0 m ≡ c → false ≡ c) [
      | true ↦ λ t. let pos : 0 < n = grind (arith, nat_tests, t, e) in let no = h.1 pos in cc
      | false ↦ λ t. refl
    ] refl

module _ {A : Type 0} (g : Path) where
  -- whether a process is in the group itself
  abbrev pub is_member : Row A → Bool
  is_member e = same_path e.1.home g

  abbrev pub pids_in : List (Row A) → List ℕ
  pids_in es = map (λ e. e.0) (filter is_member es)

  pub one_more_pid : (e : Row A) (rest all : List (Row A)) (now next whole : List ℕ) → all ≡ e ∷ rest → same_path e.1.home g ≡ true
      → next ≡ now ++ e.0 ∷ [] → now ++ pids_in all ≡ whole → next ++ pids_in rest ≡ whole
  one_more_pid e rest all now next whole step is more before =
      ap (λ xs. xs ++ pids_in rest) more ∙ append_assoc now (e.0 ∷ []) (pids_in rest)
      ∙ sym (ap (λ es. now ++ pids_in es) step ∙ ap (λ b. now ++ map (λ e. e.0) (cond b (e ∷ filter is_member rest) (filter is_member rest))) is) ∙ before

  pub one_pid_less : (e : Row A) (rest all : List (Row A)) (now whole : List ℕ) → all ≡ e ∷ rest → same_path e.1.home g ≡ false → now ++ pids_in all ≡ whole → now ++ pids_in rest ≡ whole
  one_pid_less e rest all now whole step is before =
      sym (ap (λ es. now ++ pids_in es) step ∙ ap (λ b. now ++ map (λ e. e.0) (cond b (e ∷ filter is_member rest) (filter is_member rest))) is) ∙ before

  pids_of_rows : (es : List (Row A)) → map (λ e. e.0) (map home_row es) ≡ map (λ e. e.0) es
  pids_of_rows [] = refl
  pids_of_rows (e ∷ es) = ap (λ ks. e.0 ∷ ks) (pids_of_rows es)

  pub members-is : (tree : Groups) (es : List (Row A)) (s : State) → state_of tree es ≡ s → IsStrictlySortedBy nat_cmp (keys_of es) → pids_in es ≡ members s g
  members-is tree es s v ordered =
      sym (pids_of_rows (filter is_member es))
      ∙ ap (map (λ e. e.0)) (sym (filter-map (λ e. same_path e.1 g) home_row es))
      ∙ ap (λ rs. map (λ e. e.0) (filter (λ e. same_path e.1 g) rs)) (sym (fin.entries-from_sorted nat_cmp (home_rows es) (to_sorted es ordered)))
      ∙ ap (λ t. members t g) v
