-- Two changes of a finite map that together leave it.
use Rattle.std.proofs.Common.{◌≡◌, ℕ, Bool, true, false, cond, not, List, [], ◌∷◌, map, Option, Some, None, refl, sym, ap, ◌∙◌}
use Rattle.std.specs.declared.cmp.Ordering.{Ordering}
use Rattle.std.specs.declared.cmp.Ordering.TheVariants.{Equal}
use Rattle.std.specs.Ordering.{eq_by_cmp, nat_cmp}
use Rattle.std.specs.Prelude.{option_map}
use Rattle.std.specs.Option.{option_or}
use Rattle.std.specs.Cmp.{IsTotalOrder, nat_cmp_total, eq_by_cmp_equiv, Equal-is}
use Rattle.std.specs.FinMap.{FinMap, IsAntisymmetric, nat_cmp-IsAntisymmetric, same_map, get, insert, remove, retain_keys, entries, find}
use Rattle.std.specs.FinMap.{from_entries, get-insert, get-remove, get-retain_keys, get-from_entries, get-entries}
use Rattle.flat_model.specs.Path.{Path}
use Rattle.flat_model.specs.Inverse.{place_all}

pub twice : {A : Type 0} (b : Bool) (x y z : A) → cond b x (cond b y z) ≡ cond b x z
twice true x y z = refl
twice false x y z = refl

pub key_of : {K : Type 0} {R : K → K → Ordering} → IsAntisymmetric R → (q k : K) → eq_by_cmp R q k ≡ true → q ≡ k
key_of {R = R} same q k e = same q k ((Equal-is (R q k)).0 e)

module _ {K X : Type 0} {R : K → K → Ordering} (o : IsTotalOrder R) (same : IsAntisymmetric R) where
  -- what a test answers at a key, where it answers b there
  pub by_key : (m : FinMap R X) (k q : K) (x : Option X) → get m k ≡ x → cond (eq_by_cmp R q k) x (get m q) ≡ get m q
  by_key m k q x e =
      elim (eq_by_cmp R q k) as (λ b. eq_by_cmp R q k ≡ b → cond b x (get m q) ≡ get m q) [
        | true ↦ λ t. sym e ∙ ap (get m) (sym (key_of same q k t))
        | false ↦ λ t. refl
      ] refl

  -- what is found where it was put
  pub get-own : (m : FinMap R X) (k : K) (v : X) → get (insert m k v) k ≡ Some v
  get-own m k v = get-insert o m k v k ∙ ap (λ b. cond b (Some v) (get m k)) ((eq_by_cmp_equiv o).refl k)

  pub remove_insert : (m : FinMap R X) (k : K) (v : X) → get m k ≡ None → remove (insert m k v) k ≡ m
  remove_insert m k v e = same_map o same _ _ (λ q.
      get-remove o (insert m k v) k q ∙ ap (cond (eq_by_cmp R q k) None) (get-insert o m k v q) ∙ twice (eq_by_cmp R q k) None (Some v) (get m q) ∙ by_key m k q None e)

  pub remove_absent : (m : FinMap R X) (k : K) → get m k ≡ None → remove m k ≡ m
  remove_absent m k e = same_map o same _ _ (λ q. get-remove o m k q ∙ by_key m k q None e)

  pub insert_remove : (m : FinMap R X) (k : K) (v : X) → get m k ≡ Some v → insert (remove m k) k v ≡ m
  insert_remove m k v e = same_map o same _ _ (λ q.
      get-insert o (remove m k) k v q ∙ ap (cond (eq_by_cmp R q k) (Some v)) (get-remove o m k q) ∙ twice (eq_by_cmp R q k) (Some v) None (get m q) ∙ by_key m k q (Some v) e)

  pub insert_insert : (m : FinMap R X) (k : K) (v w : X) → get m k ≡ Some v → insert (insert m k w) k v ≡ m
  insert_insert m k v w e = same_map o same _ _ (λ q.
      get-insert o (insert m k w) k v q ∙ ap (cond (eq_by_cmp R q k) (Some v)) (get-insert o m k w q) ∙ twice (eq_by_cmp R q k) (Some v) (Some w) (get m q) ∙ by_key m k q (Some v) e)

  -- a change of each value by its key
  find-each : (f : K → X → X) (es : List (K × X)) (q : K) → find R q (map (λ e. (e.0, f e.0 e.1)) es) ≡ option_map (f q) (find R q es)
  find-each f [] q = refl
  find-each f (e ∷ es) q =
      elim (eq_by_cmp R q e.0) as (λ b. eq_by_cmp R q e.0 ≡ b → cond b (Some (f e.0 e.1)) (find R q (map (λ e. (e.0, f e.0 e.1)) es)) ≡ option_map (f q) (cond b (Some e.1) (find R q es))) [
        | true ↦ λ t. ap (λ k. Some (f k e.1)) (sym (key_of same q e.0 t))
        | false ↦ λ t. find-each f es q
      ] refl

  pub get-each : (f : K → X → X) (m : FinMap R X) (q : K) → get (from_entries {R = R} (map (λ e. (e.0, f e.0 e.1)) (entries m))) q ≡ option_map (f q) (get m q)
  get-each f m q = get-from_entries o _ q ∙ find-each f (entries m) q ∙ ap (option_map (f q)) (sym (get-entries m q))

  undone_at : (f g : K → X → X) → ((k : K) (x : X) → g k (f k x) ≡ x) → (q : K) (x : Option X) → option_map (g q) (option_map (f q) x) ≡ x
  undone_at f g h q None = refl
  undone_at f g h q (Some x) = ap Some (h q x)

  -- a change of each value that another one takes back
  pub each_back : (f g : K → X → X) → ((k : K) (x : X) → g k (f k x) ≡ x) → (m : FinMap R X) →
      from_entries {R = R} (map (λ e. (e.0, g e.0 e.1)) (entries (from_entries {R = R} (map (λ e. (e.0, f e.0 e.1)) (entries m))))) ≡ m
  each_back f g h m = same_map o same _ _ (λ q.
      get-each g (from_entries {R = R} (map (λ e. (e.0, f e.0 e.1)) (entries m))) q ∙ ap (option_map (g q)) (get-each f m q) ∙ undone_at f g h q (get m q))

  -- the same where it takes back what is there
  back_at : (f g : K → X → X) (q : K) (o : Option X) → ((x : X) → o ≡ Some x → g q (f q x) ≡ x) → option_map (g q) (option_map (f q) o) ≡ o
  back_at f g q None h = refl
  back_at f g q (Some x) h = ap Some (h x refl)

  pub each_there_back : (f g : K → X → X) (m : FinMap R X) → ((k : K) (x : X) → get m k ≡ Some x → g k (f k x) ≡ x) →
      from_entries {R = R} (map (λ e. (e.0, g e.0 e.1)) (entries (from_entries {R = R} (map (λ e. (e.0, f e.0 e.1)) (entries m))))) ≡ m
  each_there_back f g m h = same_map o same _ _ (λ q.
      get-each g (from_entries {R = R} (map (λ e. (e.0, f e.0 e.1)) (entries m))) q ∙ ap (option_map (g q)) (get-each f m q) ∙ back_at f g q (get m q) (h q))

get-place_all : (es : List (ℕ × Path)) (home : FinMap nat_cmp Path) (q : ℕ) → get (place_all es home) q ≡ option_or (find nat_cmp q es) (get home q)
get-place_all [] home q = refl
get-place_all (e ∷ es) home q =
    get-insert nat_cmp_total (place_all es home) e.0 e.1 q
    ∙ elim (eq_by_cmp nat_cmp q e.0) as (λ b. cond b (Some e.1) (get (place_all es home) q) ≡ option_or (cond b (Some e.1) (find nat_cmp q es)) (get home q)) [
      | true ↦ refl
      | false ↦ get-place_all es home q
    ]

-- what was taken out, placed again
pub place_lost : (test : ℕ → Bool) (home : FinMap nat_cmp Path) → place_all (entries (retain_keys home test)) (retain_keys home (λ pid. not (test pid))) ≡ home
place_lost test home = same_map nat_cmp_total nat_cmp-IsAntisymmetric _ _ (λ q.
    let alike : (p : ℕ → Bool) (x : ℕ) → nat_cmp q x ≡ Equal → p x ≡ p q = λ p x t. ap p (sym (nat_cmp-IsAntisymmetric q x t)) in
    get-place_all _ _ q
    ∙ ap (λ a. option_or a (get (retain_keys home (λ pid. not (test pid))) q)) (sym (get-entries (retain_keys home test) q) ∙ get-retain_keys home test q (alike test))
    ∙ ap (option_or (cond (test q) (get home q) None)) (get-retain_keys home (λ pid. not (test pid)) q (alike (λ pid. not (test pid))))
    ∙ joined (test q) (get home q))
  where
    joined : (b : Bool) (x : Option Path) → option_or (cond b x None) (cond (not b) x None) ≡ x
    joined true None = refl
    joined true (Some x) = refl
    joined false x = refl
