-- What a map whose values are seen through a function answers.
use Rattle.std.proofs.Common.{◌≡◌, Bool, true, false, cond, ◌&&◌, T, List, [], ◌∷◌, map, length, Option, Some, None, refl, sym, ap, subst, ◌∙◌, is_some}
use Rattle.std.specs.Prelude.{option_map}
use Rattle.std.specs.declared.cmp.Ordering.{Ordering}
use Rattle.std.specs.Ordering.{eq_by_cmp, is_lt}
use Rattle.std.specs.Cmp.{IsTotalOrder}
use Rattle.std.specs.FinMap.{FinMap, IsAntisymmetric, same_map, get, insert, remove, entries, keys, len, find, is_sorted, get-insert}
use Rattle.std.specs.FinMap.{get-remove, get-entries, len-entries, entries_sorted, entries-from_sorted, get-from_sorted}
use Rattle.std.specs.FinMap.Entries.{below_all}
use Rattle.std.proofs.lemmas.List.{length-map}
use Rattle.flat_model.specs.Mapped.{map_values}
use Rattle.flat_model.proofs.Options.{is_some-option_map}

-- ---- lists of entries

module _ {K X Y : Type 0} (R : K → K → Ordering) (f : X → Y) where
  below-map : (k : K) (es : List (K × X)) → below_all R k (map (λ e. (e.0, f e.1)) es) ≡ below_all R k es
  below-map k [] = refl
  below-map k (e ∷ es) = ap (λ b. is_lt (R k e.0) && b) (below-map k es)

  is_sorted-map : (es : List (K × X)) → is_sorted R (map (λ e. (e.0, f e.1)) es) ≡ is_sorted R es
  is_sorted-map [] = refl
  is_sorted-map (e ∷ es) = λ i. below-map e.0 es i && is_sorted-map es i

  find-map : (q : K) (es : List (K × X)) → find R q (map (λ e. (e.0, f e.1)) es) ≡ option_map f (find R q es)
  find-map q [] = refl
  find-map q (e ∷ es) =
      elim (eq_by_cmp R q e.0) as (λ b. cond b (Some (f e.1)) (find R q (map (λ e. (e.0, f e.1)) es)) ≡ option_map f (cond b (Some e.1) (find R q es))) [ true ↦ refl | false ↦ find-map q es ]

keys-map : {K X Y : Type 0} (f : X → Y) (es : List (K × X)) → map (λ (e : K × Y). e.0) (map (λ e. (e.0, f e.1)) es) ≡ map (λ e. e.0) es
keys-map f [] = refl
keys-map f (e ∷ es) = ap (λ ks. e.0 ∷ ks) (keys-map f es)

option_map-cond : {X Y : Type 0} (f : X → Y) (b : Bool) (x y : Option X) → option_map f (cond b x y) ≡ cond b (option_map f x) (option_map f y)
option_map-cond f true x y = refl
option_map-cond f false x y = refl

-- ---- maps

module _ {K X Y : Type 0} {R : K → K → Ordering} (f : X → Y) where
  sorted_map : (m : FinMap R X) → T (is_sorted R (map (λ e. (e.0, f e.1)) (entries m)))
  sorted_map m = subst T (sym (is_sorted-map R f (entries m))) (entries_sorted m)

  pub entries-map_values : (m : FinMap R X) → entries (map_values f m) ≡ map (λ e. (e.0, f e.1)) (entries m)
  entries-map_values m = entries-from_sorted R (map (λ e. (e.0, f e.1)) (entries m)) (sorted_map m)

  pub get-map_values : (m : FinMap R X) (q : K) → get (map_values f m) q ≡ option_map f (get m q)
  get-map_values m q = get-from_sorted R (map (λ e. (e.0, f e.1)) (entries m)) q (sorted_map m) ∙ find-map R f q (entries m) ∙ ap (option_map f) (sym (get-entries m q))

  pub keys-map_values : (m : FinMap R X) → keys (map_values f m) ≡ keys m
  keys-map_values m = ap (λ (es : List (K × Y)). map (λ e. e.0) es) (entries-map_values m) ∙ keys-map f (entries m)

  pub len-map_values : (m : FinMap R X) → len (map_values f m) ≡ len m
  len-map_values m = len-entries (map_values f m) ∙ ap length (entries-map_values m) ∙ length-map (entries m) (λ e. (e.0, f e.1)) ∙ sym (len-entries m)

  pub contains-map_values : (m : FinMap R X) (q : K) → is_some (get (map_values f m) q) ≡ is_some (get m q)
  contains-map_values m q = ap is_some (get-map_values m q) ∙ is_some-option_map f (get m q)

  module _ (o : IsTotalOrder R) (same : IsAntisymmetric R) where
    pub map_values-insert : (m : FinMap R X) (k : K) (v : X) → map_values f (insert m k v) ≡ insert (map_values f m) k (f v)
    map_values-insert m k v = same_map o same _ _ (λ q.
        get-map_values (insert m k v) q ∙ ap (option_map f) (get-insert o m k v q) ∙ option_map-cond f (eq_by_cmp R q k) (Some v) (get m q)
        ∙ ap (cond (eq_by_cmp R q k) (Some (f v))) (sym (get-map_values m q)) ∙ sym (get-insert o (map_values f m) k (f v) q))

    pub map_values-remove : (m : FinMap R X) (k : K) → map_values f (remove m k) ≡ remove (map_values f m) k
    map_values-remove m k = same_map o same _ _ (λ q.
        get-map_values (remove m k) q ∙ ap (option_map f) (get-remove o m k q) ∙ option_map-cond f (eq_by_cmp R q k) None (get m q)
        ∙ ap (cond (eq_by_cmp R q k) None) (sym (get-map_values m q)) ∙ sym (get-remove o (map_values f m) k q))
