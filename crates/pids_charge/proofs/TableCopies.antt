-- A table copied row by row, each process at its leaf modulo a number of leaves.
use Rattle.std.proofs.Common.{◌≡◌, ℕ, ◌+◌, ◌++◌, ◌∷◌, ◌≤◌, ◌%◌, [], List, length, map, sum_by, refl, sym, ap, ◌∙◌, subst, append_assoc, append-nil, arith, rules}
use Rattle.std.proofs.lemmas.List.Elements.{All-head, All-tail, All-cons}
use Rattle.std.proofs.lemmas.List.Sums.{sum_by-cons}
use Rattle.std.specs.declared.cmp.Ordering.TheVariants.{Less}
use Rattle.std.specs.Ordering.{nat_cmp, ordering_reverse}
use Rattle.std.specs.Cmp.{nat_cmp_total}
use Rattle.std.specs.List.{All, AllByRecursion}
use Rattle.std.specs.List.Sorted.{IsStrictlySortedBy}
use Rattle.std.specs.Map.{values_of, keys_of}
use Rattle.std.specs.BTreeMap.{insert_entry}
use Rattle.std.specs.FinMap as fin
use Rattle.group_tree.specs.Groups.{Groups}
use Rattle.flat_model.specs.Path.{Path}
use Rattle.flat_model.specs.CommandText.{IsPid}
use Rattle.pids_charge.specs.Content.{Content}
use Rattle.pids_charge.specs.Lists.{Row, at_leaf_below, row_below}
use Rattle.pids_charge.specs.Recount.{Recounted, IsPlaced, charges_at, charges_of, state_of}
use Rattle.process_table.specs.declared.process.Process.{Process}
use Rattle.pids_charge.proofs.Entries.{home_rows, sum_by-mapped}

-- ---- an entry put behind all others

module _ {X : Type 0} where
  above_last : (P : ℕ → Type 0) (es : List (ℕ × X)) (k : ℕ) (x : X) (rest : List (ℕ × X)) → AllByRecursion P (keys_of (es ++ (k, x) ∷ rest)) → P k
  above_last P [] k x rest h = h.0
  above_last P (e ∷ es) k x rest h = above_last P es k x rest h.1

  put_last : (es : List (ℕ × X)) (k : ℕ) (x : X) (rest : List (ℕ × X)) → IsStrictlySortedBy nat_cmp (keys_of (es ++ (k, x) ∷ rest)) → insert_entry nat_cmp es k x ≡ es ++ (k, x) ∷ []
  unfolding IsStrictlySortedBy
  put_last [] k x rest h = refl
  put_last (e ∷ es) k x rest h =
      rw (nat_cmp_total.antisymm k e.0 ∙ ap ordering_reverse (above_last (λ y. nat_cmp e.0 y ≡ Less) es k x rest h.0)) (ap (λ r. e ∷ r) (put_last es k x rest h.1))

-- ---- one row after another

pub all_rows : {X Y : Type 0} (f : X → Y) (now : List Y) (rest : List X) {whole : List Y} → rest ≡ [] → now ++ map f rest ≡ whole → now ≡ whole
all_rows f now rest none h = sym (ap (λ r. now ++ map f r) none ∙ append-nil now) ∙ h

module _ {A : Type 0} where
  pub all_summed : (f : Process A → ℕ) (all es rest : List (Row A)) (now before : ℕ) → rest ≡ [] → all ≡ es
      → now + sum_by f (values_of rest) ≡ before + sum_by f (values_of all) → now ≡ before + sum_by f (values_of es)
  all_summed f all es rest now before none same h =
      let left = ap (λ (fs : List (Row A)). sum_by f (values_of fs)) none in
      let whole = ap (λ (fs : List (Row A)). sum_by f (values_of fs)) same in
      omega (arith, left, whole, h)

  pub one_more_summed : (f : Process A → ℕ) (e : Row A) (rest all : List (Row A)) (now next whole : ℕ) → all ≡ e ∷ rest → next ≡ now + f e.1
      → now + sum_by f (values_of all) ≡ whole → next + sum_by f (values_of rest) ≡ whole
  one_more_summed f e rest all now next whole step more before =
      let first = ap (λ (es : List (Row A)). sum_by f (values_of es)) step ∙ sum_by-cons f e.1 (values_of rest) in
      omega (arith, more, before, first)

module _ {A : Type 0} (B : Type 0) (leaves : ℕ) where
  keys_below : (es : List (Row A)) → keys_of (map (row_below {A = A} {B = B} leaves) es) ≡ keys_of es
  keys_below [] = refl
  keys_below (e ∷ es) = ap (λ ks. e.0 ∷ ks) (keys_below es)

  pub one_more_row : (e : Row A) (rest all whole : List (Row A)) (now next : List (Row B)) → IsStrictlySortedBy nat_cmp (keys_of whole) → all ≡ e ∷ rest
      → next ≡ insert_entry nat_cmp now e.0 (at_leaf_below leaves e.1) → now ++ map (row_below leaves) all ≡ map (row_below leaves) whole
      → next ++ map (row_below leaves) rest ≡ map (row_below leaves) whole
  one_more_row e rest all whole now next ordered step more before =
      let same : now ++ row_below leaves e ∷ map (row_below leaves) rest ≡ map (row_below leaves) whole = ap (λ (es : List (Row A)). now ++ map (row_below leaves) es) (sym step) ∙ before in
      let sorted : IsStrictlySortedBy nat_cmp (keys_of (now ++ row_below leaves e ∷ map (row_below leaves) rest)) =
      subst (IsStrictlySortedBy nat_cmp) (sym (ap keys_of same ∙ keys_below whole)) ordered in
      ap (λ (es : List (Row B)). es ++ map (row_below leaves) rest) (more ∙ put_last now e.0 (at_leaf_below leaves e.1) (map (row_below leaves) rest) sorted)
      ∙ append_assoc now (row_below leaves e ∷ []) (map (row_below leaves) rest) ∙ same

  -- ---- the whole

  values_below : (es : List (Row A)) → values_of (map (row_below {A = A} {B = B} leaves) es) ≡ map (at_leaf_below leaves) (values_of es)
  values_below [] = refl
  values_below (e ∷ es) = ap (λ ps. at_leaf_below {A = A} {B = B} leaves e.1 ∷ ps) (values_below es)

  homes_below : (es : List (Row A)) → home_rows (map (row_below {A = A} {B = B} leaves) es) ≡ home_rows es
  homes_below [] = refl
  homes_below (e ∷ es) = ap (λ rs. (e.0, e.1.home) ∷ rs) (homes_below es)

  pub same_state : (tree : Groups) (es : List (Row A)) → state_of tree (map (row_below {A = A} {B = B} leaves) es) ≡ state_of tree es
  same_state tree es = ap (λ (rs : List (ℕ × Path)). record { groups = (state_of tree es).groups; home = fin.from_sorted {R = nat_cmp} rs }) (homes_below es)

  placed_below : (leaves2 : ℕ) (tree : Groups) (ps : List (Process A)) → 1 ≤ leaves → All (λ p. IsPlaced leaves2 tree p) ps
      → All (λ p. IsPlaced leaves tree p) (map (at_leaf_below {A = A} {B = B} leaves) ps)
  placed_below leaves2 tree [] some h = search rules
  placed_below leaves2 tree (p ∷ ps) some h =
      let one = All-head (λ p. IsPlaced leaves2 tree p) p ps h in
      All-cons (λ p. IsPlaced leaves tree p) (at_leaf_below leaves p) (map (at_leaf_below leaves) ps)
      (record { home = one.home; row = one.row; leaf_below = omega (arith, some) }) (placed_below leaves2 tree ps some (All-tail (λ p. IsPlaced leaves2 tree p) p ps h))

  pub recounted : (leaves2 : ℕ) (tree : Groups) (es : List (Row A)) (content content2 : Content) (held held2 : ℕ) → Recounted leaves2 tree es content2 held2 → 1 ≤ leaves
      → ((s j : ℕ) → content s j ≡ sum_by (λ p. charges_at tree p.home (p.leaf % leaves) s j) (values_of es)) → held ≡ sum_by (λ p. length p.home) (values_of es)
      → Recounted leaves tree (map (row_below {A = A} {B = B} leaves) es) content held
  recounted leaves2 tree es content content2 held held2 d some counted many =
      let sum = λ (f : Process B → ℕ). ap (sum_by f) (values_below es) ∙ sum_by-mapped f (at_leaf_below leaves) (values_of es) in
      record {
        ordered = subst (IsStrictlySortedBy nat_cmp) (sym (keys_below es)) d.ordered;
        pids = subst (All IsPid) (sym (keys_below es)) d.pids;
        placed = subst (All (λ (p : Process B). IsPlaced leaves tree p)) (sym (values_below es)) (placed_below leaves2 tree (values_of es) some d.placed);
        counted = λ s j. counted s j ∙ sym (sum (λ p. charges_of tree p s j));
        held_is = many ∙ sym (sum (λ p. length p.home));
      }
