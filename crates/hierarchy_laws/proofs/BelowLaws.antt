-- What the tree says of the groups below one.
use Rattle.std.proofs.Common.{◌≡◌, ◌≢◌, ◌↔◌, ℕ, Bool, true, false, List, [], ◌∷◌, ◌++◌, Option, Some, None, refl, sym, ap, ◌∙◌, is_some, not}
use Rattle.std.specs.Prelude.{IsSome, codes, decimal, count_by}
use Rattle.std.specs.List.{list_any}
use Rattle.std.specs.Ordering.{nat_cmp, eq_by_cmp}
use Rattle.std.specs.FinMap.{FinMap, get, keys, values, contains_key-keys}
use Rattle.flat_model.specs.Refuse.{refuse}
use Rattle.flat_model.specs.Path.{Name, Path, path_cmp, parent, same_path, strictly_below}
use Rattle.flat_model.specs.Command as model
use Rattle.flat_model.specs.Command.{Refusal}
use Rattle.flat_model.specs.File.{Stat}
use Rattle.flat_model.specs.FileText.{file_text, line}
use Rattle.flat_model.specs.Mapped.{map_values}
use Rattle.flat_model.specs.Step.{refusal}
use Rattle.flat_model.proofs.MapValues.{contains-map_values}
use Rattle.group_tree.specs.declared.attr.Attr.{Attr}
use Rattle.group_tree.specs.Groups.{Groups, HasBelow, descendant_count}
use Rattle.group_tree.specs.Flat.{CountsAsFlat, group_of}
use Rattle.group_tree.specs.ChildNames.{NamesChildren, child_names, last_name}
use Rattle.group_tree.proofs.Parents as parents

-- ---- in a flat state

pub shown_is : (m : Groups) (home : FinMap nat_cmp Path) (p : Path) → CountsAsFlat m
    → file_text (record { groups = map_values group_of m; home = home }) p Stat
    ≡ line (codes "nr_descendants " ++ decimal (descendant_count m p)) ++ line (codes "nr_dying_descendants 0")
shown_is m home p c = ap (λ n. line (codes "nr_descendants " ++ decimal n) ++ line (codes "nr_dying_descendants 0")) (c.counts home p)

-- the refusals of a removal that come after the group was found
for_children : (some lives : Bool) → refuse some model.HasChildren (refuse lives model.HasProcesses None) ≡ Some model.HasChildren → some ≡ true
for_children true lives e = refl
for_children false true e = cc
for_children false false e = cc

pub refused_is : (slots : ℕ) (m : Groups) (home : FinMap nat_cmp Path) (n : Name) (p : Path) → CountsAsFlat m → IsSome (get m (n ∷ p))
    → (refusal slots (record { groups = map_values group_of m; home = home }) (model.RemoveGroup (n ∷ p)) ≡ Some model.HasChildren) ↔ HasBelow m (n ∷ p)
refused_is slots m home n p c there =
    let some : Bool = list_any (λ q. strictly_below q (n ∷ p)) (keys (map_values group_of m)) in
    let lives : Bool = list_any (λ q. same_path q (n ∷ p)) (values home) in
    let found : refusal slots (record { groups = map_values group_of m; home = home }) (model.RemoveGroup (n ∷ p))
    ≡ refuse some model.HasChildren (refuse lives model.HasProcesses None) =
    ap (λ b. refuse (not b) (model.NoGroup (n ∷ p)) (refuse some model.HasChildren (refuse lives model.HasProcesses None)))
    (contains-map_values group_of m (n ∷ p) ∙ there) in (
      λ e. (c.below (n ∷ p)).0 (for_children some lives (sym found ∙ e)),
      λ h. found ∙ ap (λ b. refuse b model.HasChildren (refuse lives model.HasProcesses None)) ((c.below (n ∷ p)).1 h),
    )

-- ---- by the paths of the groups

counted_is : (m : Groups) (ps : List Path) (p : Path) (n : ℕ) → count_by (λ q. strictly_below q p) ps ≡ n → keys m ≡ ps → descendant_count m p ≡ n
counted_is m ps p n c e = ap (λ (qs : List Path). count_by (λ q. strictly_below q p) qs) e ∙ c

is_there : (m : Groups) (ps : List Path) (p : Path) (b : Bool) → keys m ≡ ps → list_any (eq_by_cmp path_cmp p) ps ≡ b → is_some (get m p) ≡ b
is_there m ps p b e t = contains_key-keys m p ∙ ap (list_any (eq_by_cmp path_cmp p)) e ∙ t

named_are : (m : Groups) (ps : List Path) (p : Path) (names : List Name) → list_any (eq_by_cmp path_cmp p) ps ≡ true → child_names ps p ≡ names
    → (r : Option (List Name)) → keys m ≡ ps → NamesChildren m p r ↔ (r ≡ Some names)
named_are m ps p names t n None e = (λ h. (let some = is_there m ps p true e t in let none = ap is_some h in cc), λ h. cc)
named_are m ps p names t n (Some xs) e = (
  λ h. ap Some (h.1 ∙ ap (λ qs. child_names qs p) e ∙ n),
  λ h. (is_there m ps p true e t, (let same : xs ≡ names = cc in same ∙ sym n ∙ ap (λ qs. child_names qs p) (sym e))),
)

none_of : (o : Option Attr) → is_some o ≡ false → o ≡ None
none_of None e = refl
none_of (Some x) e = cc

unnamed_is : (m : Groups) (ps : List Path) (p : Path) → list_any (eq_by_cmp path_cmp p) ps ≡ false
    → (r : Option (List Name)) → keys m ≡ ps → NamesChildren m p r ↔ (r ≡ None)
unnamed_is m ps p t None e = (λ h. refl, λ h. none_of (get m p) (is_there m ps p false e t))
unnamed_is m ps p t (Some xs) e = (λ h. (let no = is_there m ps p false e t in let some = h.0 in cc), λ h. cc)

-- ---- the groups `/`, `/a`, `/a/b` and `/c`

abbrev pub four : List Path
four = [] ∷ (codes "a" ∷ []) ∷ (codes "a" ∷ codes "b" ∷ []) ∷ (codes "c" ∷ []) ∷ []

pub three_below : (m : Groups) → keys m ≡ four → descendant_count m [] ≡ 3
three_below m = counted_is m four [] 3 refl

pub one_below : (m : Groups) → keys m ≡ four → descendant_count m (codes "a" ∷ []) ≡ 1
one_below m = counted_is m four (codes "a" ∷ []) 1 refl

pub none_below : (m : Groups) → keys m ≡ four → descendant_count m (codes "c" ∷ []) ≡ 0
none_below m = counted_is m four (codes "c" ∷ []) 0 refl

pub root_names : (m : Groups) (r : Option (List Name)) → keys m ≡ four → NamesChildren m [] r ↔ (r ≡ Some (codes "a" ∷ codes "c" ∷ []))
root_names m = named_are m four [] (codes "a" ∷ codes "c" ∷ []) refl refl

pub a_names : (m : Groups) (r : Option (List Name)) → keys m ≡ four → NamesChildren m (codes "a" ∷ []) r ↔ (r ≡ Some (codes "b" ∷ []))
a_names m = named_are m four (codes "a" ∷ []) (codes "b" ∷ []) refl refl

pub c_names : (m : Groups) (r : Option (List Name)) → keys m ≡ four → NamesChildren m (codes "c" ∷ []) r ↔ (r ≡ Some [])
c_names m = named_are m four (codes "c" ∷ []) [] refl refl

pub b_names : (m : Groups) (r : Option (List Name)) → keys m ≡ four → NamesChildren m (codes "b" ∷ []) r ↔ (r ≡ None)
b_names m = unnamed_is m four (codes "b" ∷ []) refl

-- ---- last names

pub last_behind : (p : Path) (n : Name) → last_name (p ++ n ∷ []) ≡ n
last_behind [] n = refl
last_behind (m ∷ []) n = refl
last_behind (m ∷ k ∷ p) n = last_behind (k ∷ p) n

pub joined_is : (p : Path) → p ≢ [] → parent p ++ last_name p ∷ [] ≡ p
joined_is [] n = absurd (n refl)
joined_is (m ∷ p) n =
    let l = parents.last_name p m in
    let last : last_name (m ∷ p) ≡ l.0 = ap last_name l.1 ∙ last_behind (parent (m ∷ p)) l.0 in
    ap (λ (k : Name). parent (m ∷ p) ++ k ∷ []) last ∙ sym l.1
