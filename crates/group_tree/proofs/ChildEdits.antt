-- Children changed, added and taken out.
use Rattle.std.proofs.Common.{◌≡◌, ℕ, Bool, true, false, cond, List, [], ◌∷◌, get_or, refl, ap, sym, ◌∙◌, subst, suc, zero, Ok, Err, Option, Some, None}
use Rattle.std.proofs.Math.ListN.{set}
use Rattle.std.specs.List.{insert, remove}
use Rattle.std.specs.declared.cmp.Ordering.{Ordering}
use Rattle.std.specs.declared.cmp.Ordering.TheVariants.{Less, Equal, Greater}
use Rattle.std.specs.Ordering.{eq_by_cmp, is_eq, ordering_then, ordering_reverse}
use Rattle.std.specs.Cmp.{alike_right}
use Rattle.std.specs.Cmp.Lexicographic.{nat_list_cmp_total}
use Rattle.std.specs.FinMap as fin
use Rattle.flat_model.specs.Path.{Name, Path, name_cmp, path_cmp}
use Rattle.group_tree.specs.declared.attr.Attr.{Attr}
use Rattle.group_tree.specs.Node.{Branch, groups_of, AllAbove, HasAscendingNames, place_of, place_by, IsUpdated}
use Rattle.group_tree.proofs.Children.{below_get, above_tied, above_less, get_root, get_child, later_ok, later_err, below_get_above}

shadowed : {A : Type 0} (b : Bool) (x y z : A) → cond b x z ≡ cond b x (cond b y z)
shadowed true x y z = refl
shadowed false x y z = refl

-- a name does not tie with two that do not tie
apart : {A : Type 0} (n k m : Name) (x y z : A) → name_cmp n k ≡ Greater
    → cond (eq_by_cmp name_cmp m k) x (cond (eq_by_cmp name_cmp m n) y z)
    ≡ cond (eq_by_cmp name_cmp m n) y (cond (eq_by_cmp name_cmp m k) x z)
apart n k m x y z o =
    elim (name_cmp m n) as (λ r. name_cmp m n ≡ r → cond (eq_by_cmp name_cmp m k) x (cond (is_eq r) y z) ≡ cond (is_eq r) y (cond (eq_by_cmp name_cmp m k) x z)) [
      | Less ↦ λ e. refl
      | Equal ↦ λ e. ap (λ r. cond (is_eq r) x y) (nat_list_cmp_total.congr m n k e ∙ o)
      | Greater ↦ λ e. refl
    ] refl

-- the children after the edit, with `after` at the paths that begin with n
pub record Edited (old new : List Branch) (n : Name) (after : Path → Option Attr) : Type 0 where
  pub ascending : HasAscendingNames new
  pub gives : (m : Name) (q : Path) → below_get new m q ≡ cond (eq_by_cmp name_cmp m n) (after q) (below_get old m q)

above_set : (x : Name) (kids : List Branch) (i : ℕ) (kid : Branch) → AllAbove x kids → ((d : Branch) → kid.name ≡ (get_or kids i d).name) → AllAbove x (set kids i kid)
above_set x [] i kid h e = h
above_set x (k ∷ kids) zero kid h e = (ap (name_cmp x) (e k) ∙ h.0, h.1)
above_set x (k ∷ kids) (suc i) kid h e = (h.0, above_set x kids i kid h.1 e)

pub replaced : (n : Name) (kids : List Branch) (i : ℕ) (kid : Branch) → place_of n kids ≡ Ok i → HasAscendingNames kids
    → ((d : Branch) → kid.name ≡ (get_or kids i d).name) → Edited kids (set kids i kid) n (λ q. fin.get kid.groups q)
replaced n [] i kid e h same = cc
replaced n (k ∷ kids) i kid e h same =
    elim (name_cmp n k.name) as (λ r. name_cmp n k.name ≡ r → place_by r (place_of n kids) ≡ Ok i → Edited (k ∷ kids) (set (k ∷ kids) i kid) n (λ q. fin.get kid.groups q)) [
      | Less ↦ λ o e. cc
      | Equal ↦ λ o e.
          let z : i ≡ 0 = cc in
          let named : kid.name ≡ k.name = same k ∙ ap (λ (j : ℕ). (get_or (k ∷ kids) j k).name) z in
          subst (λ (j : ℕ). Edited (k ∷ kids) (set (k ∷ kids) j kid) n (λ q. fin.get kid.groups q)) (sym z) (record {
            ascending = (subst (λ (x : Name). AllAbove x kids) (sym named) h.0, h.1);
            gives = λ m q. ap (λ (x : Name). cond (eq_by_cmp name_cmp m x) (fin.get kid.groups q) (below_get kids m q)) named
                ∙ shadowed (eq_by_cmp name_cmp m k.name) (fin.get kid.groups q) (fin.get k.groups q) (below_get kids m q)
                ∙ ap (λ r. cond (is_eq r) (fin.get kid.groups q) (below_get (k ∷ kids) m q)) (sym (alike_right nat_list_cmp_total n k.name m o));
          })
      | Greater ↦ λ o e.
          let l = later_ok (place_of n kids) i e in
          let there : (d : Branch) → kid.name ≡ (get_or kids l.0 d).name = λ d. same d ∙ ap (λ (j : ℕ). (get_or (k ∷ kids) j d).name) l.2 in
          let f = replaced n kids l.0 kid l.1 h.1 there in
          subst (λ (j : ℕ). Edited (k ∷ kids) (set (k ∷ kids) j kid) n (λ q. fin.get kid.groups q)) (sym l.2) (record {
            ascending = (above_set k.name kids l.0 kid h.0 there, f.ascending);
            gives = λ m q. ap (cond (eq_by_cmp name_cmp m k.name) (fin.get k.groups q)) (f.gives m q) ∙ apart n k.name m _ _ _ o;
          })
    ] refl e

above_insert : (x : Name) (kids : List Branch) (i : ℕ) (kid : Branch) → AllAbove x kids → name_cmp x kid.name ≡ Less → AllAbove x (insert kids i kid)
above_insert x [] zero kid h e = (e, tt)
above_insert x [] (suc i) kid h e = (e, tt)
above_insert x (k ∷ kids) zero kid h e = (e, h)
above_insert x (k ∷ kids) (suc i) kid h e = (h.0, above_insert x kids i kid h.1 e)

pub added : (n : Name) (kids : List Branch) (i : ℕ) (kid : Branch) → place_of n kids ≡ Err i → HasAscendingNames kids → kid.name ≡ n → Edited kids (insert kids i kid) n (λ q. fin.get kid.groups q)
added n [] i kid e h same =
    let z : i ≡ 0 = cc in
    subst (λ (j : ℕ). Edited [] (insert [] j kid) n (λ q. fin.get kid.groups q)) (sym z) (record {
      ascending = (tt, tt);
      gives = λ m q. ap (λ (x : Name). cond (eq_by_cmp name_cmp m x) (fin.get kid.groups q) None) same;
    })
added n (k ∷ kids) i kid e h same =
    elim (name_cmp n k.name) as (λ r. name_cmp n k.name ≡ r → place_by r (place_of n kids) ≡ Err i → Edited (k ∷ kids) (insert (k ∷ kids) i kid) n (λ q. fin.get kid.groups q)) [
      | Less ↦ λ o e.
          let z : i ≡ 0 = cc in
          subst (λ (j : ℕ). Edited (k ∷ kids) (insert (k ∷ kids) j kid) n (λ q. fin.get kid.groups q)) (sym z) (record {
            ascending = (subst (λ (x : Name). AllAbove x (k ∷ kids)) (sym same) (o, above_less n k.name kids o h.0), h);
            gives = λ m q. ap (λ (x : Name). cond (eq_by_cmp name_cmp m x) (fin.get kid.groups q) (below_get (k ∷ kids) m q)) same;
          })
      | Equal ↦ λ o e. cc
      | Greater ↦ λ o e.
          let l = later_err (place_of n kids) i e in
          let f = added n kids l.0 kid l.1 h.1 same in
          let less : name_cmp k.name kid.name ≡ Less = ap (name_cmp k.name) same ∙ nat_list_cmp_total.antisymm k.name n ∙ ap ordering_reverse o in
          subst (λ (j : ℕ). Edited (k ∷ kids) (insert (k ∷ kids) j kid) n (λ q. fin.get kid.groups q)) (sym l.2) (record {
            ascending = (above_insert k.name kids l.0 kid h.0 less, f.ascending);
            gives = λ m q. ap (cond (eq_by_cmp name_cmp m k.name) (fin.get k.groups q)) (f.gives m q) ∙ apart n k.name m _ _ _ o;
          })
    ] refl e

above_remove : (x : Name) (kids : List Branch) (i : ℕ) → AllAbove x kids → AllAbove x (remove kids i)
above_remove x [] zero h = tt
above_remove x [] (suc i) h = tt
above_remove x (k ∷ kids) zero h = h.1
above_remove x (k ∷ kids) (suc i) h = (h.0, above_remove x kids i h.1)

removed_first : {A : Type 0} (t : Bool) (x y : Option A) → (t ≡ true → y ≡ None) → y ≡ cond t None (cond t x y)
removed_first true x y h = h refl
removed_first false x y h = refl

equal : (r : Ordering) → is_eq r ≡ true → r ≡ Equal
equal Less e = cc
equal Equal e = refl
equal Greater e = cc

pub taken_out : (n : Name) (kids : List Branch) (i : ℕ) → place_of n kids ≡ Ok i → HasAscendingNames kids → Edited kids (remove kids i) n (λ q. None)
taken_out n [] i e h = cc
taken_out n (k ∷ kids) i e h =
    elim (name_cmp n k.name) as (λ r. name_cmp n k.name ≡ r → place_by r (place_of n kids) ≡ Ok i → Edited (k ∷ kids) (remove (k ∷ kids) i) n (λ q. None)) [
      | Less ↦ λ o e. cc
      | Equal ↦ λ o e.
          let z : i ≡ 0 = cc in
          subst (λ (j : ℕ). Edited (k ∷ kids) (remove (k ∷ kids) j) n (λ q. None)) (sym z) (record {
            ascending = h.1;
            gives = λ m q. removed_first (eq_by_cmp name_cmp m k.name) (fin.get k.groups q) (below_get kids m q) (λ t. below_get_above m q kids (above_tied m k.name kids (equal _ t) h.0))
                ∙ ap (λ r. cond (is_eq r) None (below_get (k ∷ kids) m q)) (sym (alike_right nat_list_cmp_total n k.name m o));
          })
      | Greater ↦ λ o e.
          let l = later_ok (place_of n kids) i e in
          let f = taken_out n kids l.0 l.1 h.1 in
          subst (λ (j : ℕ). Edited (k ∷ kids) (remove (k ∷ kids) j) n (λ q. None)) (sym l.2) (record {
            ascending = (above_remove k.name kids l.0 h.0, f.ascending);
            gives = λ m q. ap (cond (eq_by_cmp name_cmp m k.name) (fin.get k.groups q)) (f.gives m q) ∙ apart n k.name m _ _ _ o;
          })
    ] refl e

-- names that tie find the same
below_get_tied : (n m : Name) (q : Path) (kids : List Branch) → name_cmp m n ≡ Equal → below_get kids m q ≡ below_get kids n q
below_get_tied n m q [] e = refl
below_get_tied n m q (k ∷ kids) e = λ i. cond (is_eq (nat_list_cmp_total.congr m n k.name e i)) (fin.get k.groups q) (below_get_tied n m q kids e i)

-- an edit at one path below one child is that edit of the node
pub lifted : (attr : Attr) (old new : List Branch) (n : Name) (p : Path) (w : Option Attr) (before after : Path → Option Attr)
    → HasAscendingNames old → Edited old new n after → ((q : Path) → below_get old n q ≡ before q)
    → ((q : Path) → after q ≡ cond (eq_by_cmp path_cmp q p) w (before q)) → IsUpdated (groups_of attr old) (groups_of attr new) (n ∷ p) w
lifted attr old new n p w before after h e was now [] = get_root attr new e.ascending ∙ sym (get_root attr old h)
lifted attr old new n p w before after h e was now (m ∷ q) =
    get_child attr new m q e.ascending ∙ e.gives m q
    ∙ elim (name_cmp m n) as (λ r. name_cmp m n ≡ r → cond (is_eq r) (after q) (below_get old m q) ≡ cond (is_eq (ordering_then r (path_cmp q p))) w (below_get old m q)) [
      | Less ↦ λ t. refl
      | Equal ↦ λ t. now q ∙ ap (cond (eq_by_cmp path_cmp q p) w) (sym (was q) ∙ sym (below_get_tied n m q old t))
      | Greater ↦ λ t. refl
    ] refl
    ∙ ap (cond (eq_by_cmp path_cmp (m ∷ q) (n ∷ p)) w) (sym (get_child attr old m q h))

-- a node without children
pub get_leaf : (attr : Attr) (q : Path) → fin.get (groups_of attr []) q ≡ cond (eq_by_cmp path_cmp q []) (Some attr) None
get_leaf attr [] = get_root attr [] tt
get_leaf attr (m ∷ q) = get_child attr [] m q tt
