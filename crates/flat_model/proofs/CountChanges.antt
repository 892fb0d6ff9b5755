-- How a count over a map's values changes.
use Rattle.std.proofs.Common.{◌≡◌, ℕ, ◌+◌, ◌≤◌, Bool, true, false, cond, T, List, [], ◌∷◌, map, Some, None, refl, sym, ap, ◌∙◌, arith}
use Rattle.std.specs.Prelude.{count_by}
use Rattle.std.specs.declared.cmp.Ordering.{Ordering}
use Rattle.std.specs.declared.cmp.Ordering.TheVariants.{Less, Equal, Greater}
use Rattle.std.specs.Ordering.{nat_cmp, is_eq, eq_by_cmp}
use Rattle.std.specs.Cmp.{IsTotalOrder, nat_cmp_total, eq_by_cmp_equiv}
use Rattle.std.specs.FinMap.{FinMap, IsAntisymmetric, nat_cmp-IsAntisymmetric, get, insert, remove, values, entries, find, is_sorted}
use Rattle.std.specs.FinMap.{entries-insert, entries_sorted, get-entries, get-insert, get-remove}
use Rattle.std.specs.FinMap.Entries.{put, by_order, below_all}
use Rattle.flat_model.proofs.Maps.{insert_remove, key_of}
use Rattle.flat_model.proofs.GroupCounts.{find_behind, find_first}
use Rattle.flat_model.proofs.Sums.{count_by-cons}
use Rattle.flat_model.proofs.Booleans.{both}

module _ {K X : Type 0} {R : K → K → Ordering} (o : IsTotalOrder R) (P : X → Bool) where
  count_put : (k : K) (v : X) (es : List (K × X)) → find R k es ≡ None → count_by P (map (λ e. e.1) (put R k v es)) ≡ cond (P v) 1 0 + count_by P (map (λ e. e.1) es)
  count_put k v [] h = omega arith
  count_put k v (e ∷ es) h =
      elim (R k e.0) as (λ r. cond (is_eq r) (Some e.1) (find R k es) ≡ None
      → count_by P (map (λ e. e.1) (by_order r ((k, v) ∷ e ∷ es) ((e.0, v) ∷ es) (e ∷ put R k v es)))
      ≡ cond (P v) 1 0 + count_by P (map (λ e. e.1) (e ∷ es))) [
        | Less ↦ λ n. count_by-cons P v (map (λ e. e.1) (e ∷ es))
        | Equal ↦ λ n. cc
        | Greater ↦ λ n. let ih = count_put k v es n in
            count_by-cons P e.1 (map (λ e. e.1) (put R k v es))
            ∙ (let a : cond (P e.1) 1 0 + count_by P (map (λ e. e.1) (put R k v es)) ≡ cond (P v) 1 0 + (cond (P e.1) 1 0 + count_by P (map (λ e. e.1) es)) = omega arith in a)
            ∙ ap (λ n. cond (P v) 1 0 + n) (sym (count_by-cons P e.1 (map (λ e. e.1) es)))
      ] h

  pub count_inserted : (m : FinMap R X) (k : K) (v : X) → get m k ≡ None → count_by P (values (insert m k v)) ≡ cond (P v) 1 0 + count_by P (values m)
  count_inserted m k v h = ap (λ es. count_by P (map (λ e. e.1) es)) (entries-insert o m k v) ∙ count_put k v (entries m) (sym (get-entries m k) ∙ h)

  pub count_removed : IsAntisymmetric R → (m : FinMap R X) (k : K) (v : X) → get m k ≡ Some v → count_by P (values m) ≡ cond (P v) 1 0 + count_by P (values (remove m k))
  count_removed same m k v h =
      ap (λ n. count_by P (values n)) (sym (insert_remove o same m k v h))
      ∙ count_inserted (remove m k) k v (get-remove o m k k ∙ ap (λ b. cond b None (get m k)) ((eq_by_cmp_equiv o).refl k))

-- ---- maps from numbers

module _ {X : Type 0} (P : X → Bool) where
  -- entries that a map has count no more than all that it has
  count_among : (es : List (ℕ × X)) → T (is_sorted nat_cmp es) → (m : FinMap nat_cmp X)
      → ((q : ℕ) (x : X) → find nat_cmp q es ≡ Some x → get m q ≡ Some x) → count_by P (map (λ e. e.1) es) ≤ count_by P (values m)
  count_among [] s m h = omega arith
  count_among (e ∷ es) s m h =
      let two = both (below_all nat_cmp e.0 es) (is_sorted nat_cmp es) s in
      let whole = count_removed nat_cmp_total P nat_cmp-IsAntisymmetric m e.0 e.1 (h e.0 e.1 (find_first e es)) in
      let first = count_by-cons P e.1 (map (λ x. x.1) es) in
      let rest = count_among es two.1 (remove m e.0) (λ q x f. behind q x two.0 f) in
      omega (arith, whole, first, rest)
    where
      behind : (q : ℕ) (x : X) → T (below_all nat_cmp e.0 es) → find nat_cmp q es ≡ Some x → get (remove m e.0) q ≡ Some x
      behind q x b f =
          get-remove nat_cmp_total m e.0 q
          ∙ elim (eq_by_cmp nat_cmp q e.0) as (λ c. eq_by_cmp nat_cmp q e.0 ≡ c → cond c None (get m q) ≡ Some x) [
            | true ↦ λ t. let none = find_behind e.0 es b in
                let same = ap (λ (k : ℕ). find nat_cmp k es) (key_of nat_cmp-IsAntisymmetric q e.0 t) in cc
            | false ↦ λ t. h q x (ap (λ c. cond c (Some e.1) (find nat_cmp q es)) t ∙ f)
          ] refl

  -- so does a map that has no others
  pub count_fewer : (n m : FinMap nat_cmp X) → ((q : ℕ) (x : X) → get n q ≡ Some x → get m q ≡ Some x) → count_by P (values n) ≤ count_by P (values m)
  count_fewer n m h = count_among (entries n) (entries_sorted n) m (λ q x f. h q x (get-entries n q ∙ f))

  -- an entry put in adds one at the most, and none where its value does not count
  pub count_put_in : (m : FinMap nat_cmp X) (k : ℕ) (v : X) → count_by P (values (insert m k v)) ≤ cond (P v) 1 0 + count_by P (values m)
  count_put_in m k v =
      let whole = count_removed nat_cmp_total P nat_cmp-IsAntisymmetric (insert m k v) k v
      (get-insert nat_cmp_total m k v k ∙ ap (λ b. cond b (Some v) (get m k)) ((eq_by_cmp_equiv nat_cmp_total).refl k)) in
      let rest = count_fewer (remove (insert m k v) k) m others in
      omega (arith, whole, rest)
    where
      others : (q : ℕ) (x : X) → get (remove (insert m k v) k) q ≡ Some x → get m q ≡ Some x
      others q x f =
          elim (eq_by_cmp nat_cmp q k) as (λ b. cond b None (cond b (Some v) (get m q)) ≡ Some x → get m q ≡ Some x) [
            | true ↦ λ e. cc
            | false ↦ λ e. e
          ] (ap (cond (eq_by_cmp nat_cmp q k) None) (sym (get-insert nat_cmp_total m k v q)) ∙ sym (get-remove nat_cmp_total (insert m k v) k q) ∙ f)
