-- A walk from a group up to the root, which changes the number of groups below each.
use Rattle.std.proofs.Common.{◌≡◌, ◌≢◌, ℕ, ◌+◌, ◌-◌, ◌<◌, true, false, cond, IsSome, List, [], ◌∷◌, length, get_or, refl, sym, ap, ◌∙◌, arith}
use Rattle.std.proofs.lemmas.Bool.{false≢true}
use Rattle.std.proofs.lemmas.List.{get_or-set_other, length-map, length-take-le}
use Rattle.std.proofs.lemmas.Grind.{get_or-set_at}
use Rattle.std.proofs.Math.ListN.{set}
use Rattle.std.proofs.Math.Seq.{map-set_same}
use Rattle.std.specs.FinMap as fin
use Rattle.flat_model.specs.Path.{Path, parent, at_or_below, same_path}
use Rattle.flat_model.proofs.PathLaws.{at_or_below_itself, same_path_is}
use Rattle.group_tree.specs.Groups.{Groups}
use Rattle.pids_charge.specs.declared.group.Group.{Group}
use Rattle.pids_charge.specs.GroupRows.{ChangesCounts, IsRowOf, attrs_of, belows_of, ups_of, with_rows}
use Rattle.pids_charge.specs.Lists.{row_at}
use Rattle.pids_charge.proofs.BelowCounts.{above_parent, not_above}
use Rattle.pids_charge.proofs.InRows.{closed_rows, read_inside, row_is, rows_apart}
use Rattle.pids_charge.proofs.ParentRows.{attr_of, below_of, below_read, belows_set, up_of, up_read}

-- ---- one row gets another count

abbrev pub with_below : Group → ℕ → Group
with_below r n = record { attr = r.attr; below = n; up = r.up }

module _ (rows : List Group) (at : ℕ) (r : Group) (read : r ≡ get_or rows at r) (below : ℕ) where
  pub attrs_same : attrs_of (set rows at (with_below r below)) ≡ attrs_of rows
  attrs_same = map-set_same attr_of rows at (with_below r below) r (ap attr_of read)

  pub ups_same : ups_of (set rows at (with_below r below)) ≡ ups_of rows
  ups_same = map-set_same up_of rows at (with_below r below) r (ap up_of read)

  count_set : (g : ℕ → ℕ) → below ≡ g r.below → at < length rows → belows_of (set rows at (with_below r below)) ≡ set (belows_of rows) at (g (get_or (belows_of rows) at 0))
  count_set g is inside =
      let count : below ≡ g (get_or (belows_of rows) at 0) =
      is ∙ ap g (below_read rows at at r read refl ∙ read_inside (belows_of rows) at r.below 0 (omega (arith, inside, length-map rows below_of))) in
      belows_set rows at at (with_below r below) refl ∙ ap (set (belows_of rows) at) count

-- ---- the groups on the way

is_root : (m : Groups) (f : Path) → row_at m f ≡ 0 → f ≡ []
is_root m [] e = refl
is_root m (n ∷ f) e = absurd (omega (arith, e))

has_names : (m : Groups) (f : Path) → row_at m f ≢ 0 → 0 < length f
has_names m [] ne = absurd (ne refl)
has_names m (n ∷ f) ne = omega arith

root_alone : (q : Path) → same_path q [] ≡ at_or_below [] q
root_alone [] = refl
root_alone (n ∷ q) = refl

-- the row of the group at f alone is changed
own_row : (g : ℕ → ℕ) (m : Groups) (f q : Path) → (row_at m q ≡ row_at m f → q ≡ f) → (belows : List ℕ) → row_at m f < length belows
    → get_or (set belows (row_at m f) (g (get_or belows (row_at m f) 0))) (row_at m q) 0
    ≡ cond (same_path q f) (g (get_or belows (row_at m q) 0)) (get_or belows (row_at m q) 0)
own_row g m f q apart belows inside = elim (same_path q f) as (λ b. same_path q f ≡ b
    → get_or (set belows (row_at m f) (g (get_or belows (row_at m f) 0))) (row_at m q) 0 ≡ cond b (g (get_or belows (row_at m q) 0)) (get_or belows (row_at m q) 0)) [
      | true ↦ λ t.
          let same : row_at m q ≡ row_at m f = ap (row_at m) ((same_path_is q f).0 t) in
          get_or-set_at belows (row_at m f) (row_at m q) (g (get_or belows (row_at m f) 0)) 0 same inside ∙ ap (λ k. g (get_or belows k 0)) (sym same)
      | false ↦ λ t.
          get_or-set_other belows (row_at m f) (row_at m q) (g (get_or belows (row_at m f) 0)) 0
          (λ e. false≢true (sym t ∙ (same_path_is q f).1 (apart e)))
    ] refl

-- first the group at f, then its parent and those above it: all at or above f, each once
then_above : (g : ℕ → ℕ) (v : ℕ) (f q : Path) → 0 < length f
    → cond (at_or_below (parent f) q) (g (cond (same_path q f) (g v) v)) (cond (same_path q f) (g v) v) ≡ cond (at_or_below f q) (g v) v
then_above g v f q named = elim (same_path q f) as (λ b. same_path q f ≡ b → cond (at_or_below (parent f) q) (g (cond b (g v) v)) (cond b (g v) v) ≡ cond (at_or_below f q) (g v) v) [
  | true ↦ λ t.
      let own = (same_path_is q f).0 t in
      ap (λ b. cond b (g (g v)) (g v)) (ap (at_or_below (parent f)) own ∙ not_above f named)
      ∙ ap (λ b. cond b (g v) v) (sym (ap (at_or_below f) own ∙ at_or_below_itself f))
  | false ↦ λ t. ap (λ b. cond b (g v) v) (above_parent f q named (λ same. false≢true (sym t ∙ (same_path_is q f).1 same)))
] refl

-- ---- the walk

-- n steps above the group at p the walk is in the row `at`; what is left is to change the count in this row and in those above it
pub record IsLeft (g : ℕ → ℕ) (groups : Groups) (p : Path) (old now : List ℕ) (n at : ℕ) : Type 0 where
  pub group : Path
  pub there : IsSome (fin.get groups group)
  pub here : at ≡ row_at groups group
  pub steps : length group + n ≡ length p
  pub left : (last : List ℕ) → ChangesCounts g groups group now last → ChangesCounts g groups p old last

module _ (g : ℕ → ℕ) (tree : Groups) (start : List Group) (p : Path) (first : ℕ) (is : IsRowOf tree start p first) where
  abbrev m : Groups
  m = with_rows tree (attrs_of start)

  pub begun : (at : ℕ) → at ≡ first → IsLeft g (with_rows tree (attrs_of start)) p (belows_of start) (belows_of start) 0 at
  begun at e = record { group = p; there = is.there; here = e ∙ is.here; steps = omega arith; left = λ last changes. changes }

  module _ (rows : List Group) (attrs : attrs_of rows ≡ attrs_of start) (ups : ups_of rows ≡ ups_of start)
      (n at : ℕ) (on : IsLeft g (with_rows tree (attrs_of start)) p (belows_of start) (belows_of rows) n at) where
    pub row_there : at < length rows
    row_there =
        let inside = (row_is tree (attrs_of start) is.has_rows m refl on.group at on.there on.here).inside in
        omega (arith, inside, ap length attrs, length-map rows attr_of)

    module _ (r : Group) (read : r ≡ get_or rows at r) (below : ℕ) (changed : below ≡ g r.below) where
      step : (q : Path) → IsSome (fin.get m q) → get_or (belows_of (set rows at (with_below r below))) (row_at m q) 0
          ≡ cond (same_path q on.group) (g (get_or (belows_of rows) (row_at m q) 0)) (get_or (belows_of rows) (row_at m q) 0)
      step q i =
          let here = on.here in
          ap (λ (bs : List ℕ). get_or bs (row_at m q) 0)
          (count_set rows at r read below g changed row_there ∙ ap (λ (k : ℕ). set (belows_of rows) k (g (get_or (belows_of rows) k 0))) here)
          ∙ own_row g m on.group q (rows_apart tree (attrs_of start) is.has_rows m refl q on.group i on.there) (belows_of rows) (omega (arith, row_there, here, length-map rows below_of))

      pub last_step : at ≡ 0 → ChangesCounts g (with_rows tree (attrs_of start)) p (belows_of start) (belows_of (set rows at (with_below r below)))
      last_step e =
          let root : on.group ≡ [] = is_root m on.group (sym on.here ∙ e) in
          on.left (belows_of (set rows at (with_below r below))) (λ q i. step q i
          ∙ ap (λ b. cond b (g (get_or (belows_of rows) (row_at m q) 0)) (get_or (belows_of rows) (row_at m q) 0))
          (ap (same_path q) root ∙ root_alone q ∙ ap (λ (f : Path). at_or_below f q) (sym root)))

      pub next_step : at ≢ 0 → (to : ℕ) → to ≡ r.up → IsLeft g (with_rows tree (attrs_of start)) p (belows_of start) (belows_of (set rows at (with_below r below))) (n + 1) to
      next_step other to up =
          let named : 0 < length on.group = has_names m on.group (λ e. other (on.here ∙ e)) in
          let steps = on.steps in
          record {
            group = parent on.group;
            there = (closed_rows tree (attrs_of start) is.has_rows.closed).parents on.group on.there;
            here = up ∙ up_read rows at at r read refl ∙ read_inside (ups_of rows) at r.up 0 (omega (arith, row_there, length-map rows up_of))
                ∙ ap (λ (us : List ℕ). get_or us at 0) ups ∙ ap (λ (k : ℕ). get_or (ups_of start) k 0) on.here ∙ is.has_parents on.group on.there;
            steps = omega (arith, steps, named, length-take-le (length on.group - 1) on.group (omega arith));
            left = λ last changes. on.left last (λ q i. changes q i
                ∙ ap (λ (k : ℕ). cond (at_or_below (parent on.group) q) (g k) k) (step q i) ∙ then_above g (get_or (belows_of rows) (row_at m q) 0) on.group q named);
          }
