-- Each accepted or counted command keeps a state well formed.
use Rattle.std.proofs.Common.{◌≡◌, ℕ, ◌+◌, ◌-◌, ◌≤◌, Bool, true, false, cond, not, ◌&&◌, ◌||◌, List, [], ◌∷◌, map, length, Option, Some, None, refl, sym, ap, subst, ◌∙◌, is_some, arith, ltb}
use Rattle.std.proofs.lemmas.List.{length-take, length-map}
use Rattle.std.specs.Prelude.{unwrap_or, option_map, max}
use Rattle.std.proofs.Math.Nat.{le-max_right}
use Rattle.std.specs.List.{list_any}
use Rattle.std.specs.Option.{option_or}
use Rattle.std.specs.declared.cmp.Ordering.{Ordering}
use Rattle.std.specs.Ordering.{nat_cmp, eq_by_cmp}
use Rattle.std.specs.Cmp.{nat_cmp_total, IsTotalOrder}
use Rattle.std.specs.FinMap.{FinMap, IsAntisymmetric, nat_cmp-IsAntisymmetric, get, insert, remove, retain_keys, entries, keys, values}
use Rattle.std.specs.FinMap.{find, len, from_entries, get-insert, get-remove, get-retain_keys, get-entries, len-insert, len-remove}
use Rattle.std.specs.FinMap.{len-entries, len-empty}
use Rattle.std.proofs.Math.Bool.{or-true}
use Rattle.std.proofs.lemmas.Bool.{not-false}
use Rattle.std.proofs.Common.{ltb-false}
use Rattle.flat_model.specs.Path.{Path, path_cmp, parent, is_root, at_or_below, strictly_below, same_path}
use Rattle.flat_model.specs.State.{State, Attr, Limit, fresh}
use Rattle.flat_model.specs.Counts.{is_group, current}
use Rattle.flat_model.specs.File.{LimitFile, PidsMax, MaxDescendants, MaxDepth}
use Rattle.flat_model.specs.Command.{Command, MakeGroup, RemoveGroup, Fork, Exit, Move, SetLimit, Kill, Show, Locate, Undo, Refusal, Exists, NoSlot, NoGroup, RootFixed, HasChildren, HasProcesses}
use Rattle.flat_model.specs.Refuse.{refuse}
use Rattle.flat_model.specs.Step.{refusal, after, home_of, attr_of, lives_in, count_up, counts_for, with_limit, at_each, blocked_make, raise_peak, raise_peaks}
use Rattle.flat_model.specs.WellFormed.{WellFormed}
use Rattle.flat_model.proofs.PathLaws.{path_cmp-IsTotalOrder, path_cmp-IsAntisymmetric, same_path_is, same_path_itself, at_or_below_itself, strictly_below_is, parent_above}
use Rattle.flat_model.proofs.Maps.{key_of, get-each}
use Rattle.flat_model.proofs.CountChanges.{count_fewer, count_put_in}
use Rattle.flat_model.proofs.GroupCounts.{nobody_without_group}
use Rattle.flat_model.proofs.RefusalTests.{passed, beyond}
use Rattle.flat_model.proofs.Booleans.{not_and_false}
use Rattle.flat_model.proofs.Options.{is_some-option_map}

some_of : {X : Type 0} (b : Bool) (x : X) (o : Option X) → is_some o ≡ true → is_some (cond b (Some x) o) ≡ true
some_of true x o h = refl
some_of false x o h = h

one_more : (b : Bool) (n m : ℕ) → n ≤ m → cond b n (n + 1) ≤ m + 1
one_more true n m h = omega arith
one_more false n m h = omega arith

one_less : (b : Bool) (n m : ℕ) → n ≤ m → cond b (n - 1) n ≤ m
one_less true n m h = omega arith
one_less false n m h = h

-- a map made of entries has as many entries at the most
len-from_entries : {K X : Type 0} {R : K → K → Ordering} → IsTotalOrder R → (es : List (K × X)) → len (from_entries {R = R} es) ≤ length es
len-from_entries {K} {X} {R} o [] = let e = len-empty R X in omega (arith, e)
len-from_entries {K} {X} {R} o (e ∷ es) =
    subst (λ n. n ≤ length (e ∷ es)) (sym (len-insert o (from_entries es) e.0 e.1))
    (let h = one_more (is_some (get (from_entries {R = R} es) e.0)) _ _ (len-from_entries o es) in omega (arith, h))

abbrev IsEven : Attr → Type 0
IsEven attr = attr.local ≤ attr.total

even_limit : (file : LimitFile) (value : Limit) (attr : Attr) → IsEven attr → IsEven (with_limit file value attr)
even_limit PidsMax value attr h = h
even_limit MaxDescendants value attr h = h
even_limit MaxDepth value attr h = h

pub limit_peak : (file : LimitFile) (value : Limit) (attr : Attr) → (with_limit file value attr).peak ≡ attr.peak
limit_peak PidsMax value attr = refl
limit_peak MaxDescendants value attr = refl
limit_peak MaxDepth value attr = refl

even_own : (o : Option Attr) → ((attr : Attr) → o ≡ Some attr → IsEven attr) → IsEven (unwrap_or o fresh)
even_own None h = omega arith
even_own (Some attr) h = h attr refl

module _ (slots : ℕ) (s : State) (w : WellFormed slots s) where
  -- ---- a group put in, or written
  more : (p : Path) (a : Attr) (q : Path) → is_group s q ≡ true → is_some (get (insert s.groups p a) q) ≡ true
  more p a q h = ap is_some (get-insert path_cmp-IsTotalOrder s.groups p a q) ∙ some_of _ _ _ h

  -- a group that is there now was there, or is the one put in
  was : (p : Path) (a : Attr) (q : Path) → is_some (get (insert s.groups p a) q) ≡ true → (b : Bool) → eq_by_cmp path_cmp q p ≡ b → is_some (cond b (Some a) (get s.groups q)) ≡ true
  was p a q h b e = ap (λ x. is_some (cond x (Some a) (get s.groups q))) (sym e) ∙ sym (ap is_some (get-insert path_cmp-IsTotalOrder s.groups p a q)) ∙ h

  even_put : (p : Path) (a : Attr) → IsEven a → (q : Path) (attr : Attr) → get (insert s.groups p a) q ≡ Some attr → IsEven attr
  even_put p a even q attr h =
      elim (eq_by_cmp path_cmp q p) as (λ b. cond b (Some a) (get s.groups q) ≡ Some attr → IsEven attr) [
        | true ↦ λ e. subst IsEven (let same : a ≡ attr = cc in same) even
        | false ↦ λ e. w.totals q attr e
      ] (sym (get-insert path_cmp-IsTotalOrder s.groups p a q) ∙ h)

  peak_put : (p : Path) (a : Attr) → (is_root p ≡ false → current s p ≤ a.peak) → (q : Path) (attr : Attr) → get (insert s.groups p a) q ≡ Some attr → is_root q ≡ false → current s q ≤ attr.peak
  peak_put p a fits q attr h r =
      elim (eq_by_cmp path_cmp q p) as (λ b. eq_by_cmp path_cmp q p ≡ b → cond b (Some a) (get s.groups q) ≡ Some attr → current s q ≤ attr.peak) [
        | true ↦ λ t e.
            let is : q ≡ p = key_of path_cmp-IsAntisymmetric q p t in
            let same : a ≡ attr = cc in
            subst (λ (x : Path). current s x ≤ attr.peak) (sym is) (subst (λ (x : Attr). current s p ≤ x.peak) same (fits (ap is_root (sym is) ∙ r)))
        | false ↦ λ t e. w.peaks q attr e r
      ] refl (sym (get-insert path_cmp-IsTotalOrder s.groups p a q) ∙ h)

  root_put : (p : Path) (a : Attr) → (is_root p ≡ true → a.peak ≡ 0) → (attr : Attr) → get (insert s.groups p a) [] ≡ Some attr → attr.peak ≡ 0
  root_put p a bare attr h =
      elim (eq_by_cmp path_cmp [] p) as (λ b. eq_by_cmp path_cmp [] p ≡ b → cond b (Some a) (get s.groups []) ≡ Some attr → attr.peak ≡ 0) [
        | true ↦ λ t e. let same : a ≡ attr = cc in ap (λ (x : Attr). x.peak) (sym same) ∙ bare (ap is_root (sym (key_of path_cmp-IsAntisymmetric [] p t)))
        | false ↦ λ t e. w.root_peak attr e
      ] refl (sym (get-insert path_cmp-IsTotalOrder s.groups p a []) ∙ h)

  with_group : (p : Path) (a : Attr) → is_group s (parent p) ≡ true → IsEven a → (is_root p ≡ false → current s p ≤ a.peak)
      → (is_root p ≡ true → a.peak ≡ 0) → len (insert s.groups p a) ≤ slots + 1
      → WellFormed slots (record s { groups = insert s.groups p a })
  with_group p a above even fits bare few = record {
    root = more p a [] w.root;
    parents = λ q h. more p a (parent q) (elim (eq_by_cmp path_cmp q p) as (λ b. eq_by_cmp path_cmp q p ≡ b → is_group s (parent q) ≡ true) [
      | true ↦ λ t. ap (λ x. is_group s (parent x)) (key_of path_cmp-IsAntisymmetric q p t) ∙ above
      | false ↦ λ t. w.parents q (was p a q h false t)
    ] refl);
    homes = λ pid q h. more p a q (w.homes pid q h);
    few = few;
    totals = even_put p a even;
    peaks = peak_put p a fits;
    root_peak = root_put p a bare;
  }

  -- ---- homes that were there already
  fewer : (h : FinMap nat_cmp Path) → ((k : ℕ) (q : Path) → get h k ≡ Some q → get s.home k ≡ Some q) → WellFormed slots (record s { home = h })
  fewer h among = record {
    root = w.root;
    parents = w.parents;
    homes = λ k q e. w.homes k q (among k q e);
    few = w.few;
    totals = w.totals;
    peaks = λ q attr e r.
        let less = count_fewer (λ p. at_or_below p q) h s.home among in
        let was = w.peaks q attr e r in omega (arith, less, was);
    root_peak = w.root_peak;
  }

  left_over : (keep : ℕ → Bool) (k : ℕ) (q : Path) → get (retain_keys s.home keep) k ≡ Some q → get s.home k ≡ Some q
  left_over keep k q h =
      elim (keep k) as (λ b. cond b (get s.home k) None ≡ Some q → get s.home k ≡ Some q) [
        | true ↦ λ e. e
        | false ↦ λ e. cc
      ] (sym (get-retain_keys s.home keep k (λ x t. ap keep (sym (nat_cmp-IsAntisymmetric k x t)))) ∙ h)

  others : (pid k : ℕ) (q : Path) → get (remove s.home pid) k ≡ Some q → get s.home k ≡ Some q
  others pid k q h =
      elim (eq_by_cmp nat_cmp k pid) as (λ b. cond b None (get s.home k) ≡ Some q → get s.home k ≡ Some q) [
        | true ↦ λ e. cc
        | false ↦ λ e. e
      ] (sym (get-remove nat_cmp_total s.home pid k) ∙ h)

  -- ---- each group changed, and none made or taken out
  gets : (f : Path → Attr → Attr) (q : Path) → get (at_each f s).groups q ≡ option_map (f q) (get s.groups q)
  gets f = get-each path_cmp-IsTotalOrder path_cmp-IsAntisymmetric f s.groups

  same_group : (f : Path → Attr → Attr) (q : Path) → is_group (at_each f s) q ≡ is_group s q
  same_group f q = ap is_some (gets f q) ∙ is_some-option_map (f q) (get s.groups q)

  few_each : (f : Path → Attr → Attr) → len (at_each f s).groups ≤ slots + 1
  few_each f =
      let made = len-from_entries path_cmp-IsTotalOrder (map (λ e. (e.0, f e.0 e.1)) (entries s.groups)) in
      let size = length-map {B = Path × Attr} (entries s.groups) (λ e. (e.0, f e.0 e.1)) ∙ sym (len-entries s.groups) in
      let few = w.few in omega (arith, made, size, few)

  -- what holds of each group as it is changed
  at_one : (f : Path → Attr → Attr) (P : Attr → Type 0) (q : Path) → ((x : Attr) → get s.groups q ≡ Some x → P (f q x)) → (attr : Attr) → get (at_each f s).groups q ≡ Some attr → P attr
  at_one f P q h attr e = by (get s.groups q) h (sym (gets f q) ∙ e)
    where
      by : (o : Option Attr) → ((x : Attr) → o ≡ Some x → P (f q x)) → option_map (f q) o ≡ Some attr → P attr
      by None h e = cc
      by (Some x) h e = subst P (let same : f q x ≡ attr = cc in same) (h x refl)

  -- ---- a process that comes to a group
  module _ (pid : ℕ) (p : Path) (there : is_group s p ≡ true) where
    abbrev come : State
    come = record s { home = insert s.home pid p }

    at_home : (k : ℕ) (q : Path) → get (insert s.home pid p) k ≡ Some q → is_group s q ≡ true
    at_home k q h =
        elim (eq_by_cmp nat_cmp k pid) as (λ b. cond b (Some p) (get s.home k) ≡ Some q → is_group s q ≡ true) [
          | true ↦ λ e. subst (λ x. is_group s x ≡ true) (let same : p ≡ q = cc in same) there
          | false ↦ λ e. w.homes k q e
        ] (sym (get-insert nat_cmp_total s.home pid p k) ∙ h)

    reached : (q : Path) (x : Attr) → get s.groups q ≡ Some x → is_root q ≡ false → current come q ≤ (raise_peak come p q x).peak
    reached q x e r =
        elim (counts_for p q) as (λ b. counts_for p q ≡ b → current come q ≤ cond b (max x.peak (current come q)) x.peak) [
          | true ↦ λ c. le-max_right x.peak (current come q)
          | false ↦ λ c.
              let more = count_put_in (λ h. at_or_below h q) s.home pid p in
              let none : ◌≡◌ {A = ℕ} (cond (at_or_below p q) 1 0) 0 = ap (λ b. cond b 1 0) (not_and_false (is_root q) (at_or_below p q) c r) in
              let was = w.peaks q x e r in omega (arith, more, none, was)
        ] refl

    with_process : WellFormed slots (raise_peaks p (record s { home = insert s.home pid p }))
    with_process = record {
      root = same_group (raise_peak come p) [] ∙ w.root;
      parents = λ q h. same_group (raise_peak come p) (parent q) ∙ w.parents q (sym (same_group (raise_peak come p) q) ∙ h);
      homes = λ k q h. same_group (raise_peak come p) q ∙ at_home k q h;
      few = few_each (raise_peak come p);
      totals = λ q. at_one (raise_peak come p) IsEven q (w.totals q);
      peaks = λ q attr e r. at_one (raise_peak come p) (λ (x : Attr). current come q ≤ x.peak) q (λ x h. reached q x h r) attr e;
      root_peak = at_one (raise_peak come p) (λ (x : Attr). x.peak ≡ 0) [] w.root_peak;
    }

  -- ---- a counted fork
  -- where the local total rises, the total rises too
  even_up : (a p : Path) (attr : Attr) → is_root a ≡ false → IsEven attr → IsEven (count_up a p attr)
  even_up a p attr not_root h =
      elim (same_path p a) as (λ b. same_path p a ≡ b → attr.local + cond b 1 0 ≤ attr.total + cond (counts_for a p) 1 0) [
        | true ↦ λ t. let same : p ≡ a = (same_path_is p a).0 t in
            subst (λ c. attr.local + 1 ≤ attr.total + cond c 1 0)
            (sym (ap (counts_for a) same ∙ (λ i. not (not_root i) && at_or_below_itself a i))) (omega arith)
        | false ↦ λ t. omega arith
      ] refl

  pub counted : (a : Path) → is_root a ≡ false → WellFormed slots (at_each (count_up a) s)
  counted a not_root = record {
    root = same_group (count_up a) [] ∙ w.root;
    parents = λ p h. same_group (count_up a) (parent p) ∙ w.parents p (sym (same_group (count_up a) p) ∙ h);
    homes = λ pid p h. same_group (count_up a) p ∙ w.homes pid p h;
    few = few_each (count_up a);
    totals = λ q. at_one (count_up a) IsEven q (λ x h. even_up a q x not_root (w.totals q x h));
    peaks = λ q attr e r. at_one (count_up a) (λ (x : Attr). current s q ≤ x.peak) q (λ x h. w.peaks q x h r) attr e;
    root_peak = at_one (count_up a) (λ (x : Attr). x.peak ≡ 0) [] w.root_peak;
  }

-- ---- a group taken out
key_passes : {K X : Type 0} {R : K → K → Ordering} → IsAntisymmetric R → (test : K → Bool) (q : K) (es : List (K × X))
    → is_some (find R q es) ≡ true → test q ≡ true → list_any test (map (λ e. e.0) es) ≡ true
key_passes same test q [] h t = cc
key_passes {R = R} same test q (e ∷ es) h t =
    elim (eq_by_cmp R q e.0) as (λ b. eq_by_cmp R q e.0 ≡ b → is_some (cond b (Some e.1) (find R q es)) ≡ true → list_any test (map (λ x. x.0) (e ∷ es)) ≡ true) [
      | true ↦ λ is _. ap (λ b. b || list_any test (map (λ x. x.0) es)) (ap test (sym (key_of same q e.0 is)) ∙ t)
      | false ↦ λ is g. ap (λ b. test e.0 || b) (key_passes same test q es g t) ∙ or-true (test e.0)
    ] refl h

value_passes : {K X : Type 0} (R : K → K → Ordering) (test : X → Bool) (q : K) (v : X) (es : List (K × X)) → find R q es ≡ Some v → test v ≡ true → list_any test (map (λ e. e.1) es) ≡ true
value_passes R test q v [] h t = cc
value_passes R test q v (e ∷ es) h t =
    elim (eq_by_cmp R q e.0) as (λ b. cond b (Some e.1) (find R q es) ≡ Some v → list_any test (map (λ x. x.1) (e ∷ es)) ≡ true) [
      | true ↦ λ g. ap (λ b. b || list_any test (map (λ x. x.1) es)) (ap test (let is : e.1 ≡ v = cc in is) ∙ t)
      | false ↦ λ g. ap (λ b. test e.1 || b) (value_passes R test q v es g t) ∙ or-true (test e.1)
    ] h

-- a group but the root is strictly below its parent
pub below_parent : (q : Path) → is_root q ≡ false → strictly_below q (parent q) ≡ true
below_parent [] h = cc
below_parent (x ∷ q) h = (strictly_below_is (x ∷ q) (parent (x ∷ q))).1 (parent_above (x ∷ q), apart (same_path (x ∷ q) (parent (x ∷ q))) refl)
  where
    apart : (b : Bool) → same_path (x ∷ q) (parent (x ∷ q)) ≡ b → same_path (x ∷ q) (parent (x ∷ q)) ≡ false
    apart false t = t
    apart true t =
        let e = ap length ((same_path_is (x ∷ q) (parent (x ∷ q))).0 t) in
        let k = length-take (length (x ∷ q) - 1) (x ∷ q) in absurd (omega (arith, e, k))

module _ (slots : ℕ) (s : State) (w : WellFormed slots s) (p : Path) (not_root : is_root p ≡ false)
    (no_child : list_any (λ q. strictly_below q p) (keys s.groups) ≡ false)
    (no_member : list_any (λ q. same_path q p) (values s.home) ≡ false) where
  left : (q : Path) → is_group s q ≡ true → (q ≡ p → ⊥) → is_some (get (remove s.groups p) q) ≡ true
  left q h n =
      ap is_some (get-remove path_cmp-IsTotalOrder s.groups p q)
      ∙ elim (eq_by_cmp path_cmp q p) as (λ b. eq_by_cmp path_cmp q p ≡ b → is_some (cond b None (get s.groups q)) ≡ true) [
        | true ↦ λ t. absurd (n (key_of path_cmp-IsAntisymmetric q p t))
        | false ↦ λ t. h
      ] refl

  there_before : (q : Path) (attr : Attr) → get (remove s.groups p) q ≡ Some attr → get s.groups q ≡ Some attr
  there_before q attr h =
      elim (eq_by_cmp path_cmp q p) as (λ b. cond b None (get s.groups q) ≡ Some attr → get s.groups q ≡ Some attr) [
        | true ↦ λ e. cc
        | false ↦ λ e. e
      ] (sym (get-remove path_cmp-IsTotalOrder s.groups p q) ∙ h)

  group_before : (q : Path) → is_some (get (remove s.groups p) q) ≡ true → is_group s q ≡ true
  group_before q h =
      elim (eq_by_cmp path_cmp q p) as (λ b. is_some (cond b None (get s.groups q)) ≡ true → is_group s q ≡ true) [
        | true ↦ λ e. cc
        | false ↦ λ e. e
      ] (sym (ap is_some (get-remove path_cmp-IsTotalOrder s.groups p q)) ∙ h)

  root_parent : (q : Path) → is_root q ≡ true → parent q ≡ []
  root_parent [] t = refl
  root_parent (x ∷ q) t = cc

  without_group : WellFormed slots (record s { groups = remove s.groups p })
  without_group = record {
    root = left [] w.root (λ e. let f : true ≡ false = ap is_root e ∙ not_root in cc);
    parents = λ q h. left (parent q) (w.parents q (group_before q h)) (λ e.
        elim (is_root q) as (λ b. is_root q ≡ b → ⊥) [
          | true ↦ λ t. let f : true ≡ false = sym (ap is_root (root_parent q t)) ∙ ap is_root e ∙ not_root in cc
          | false ↦ λ t.
              let under : strictly_below q p ≡ true = ap (λ a. strictly_below q a) (sym e) ∙ below_parent q t in
              let f : true ≡ false =
              sym (key_passes path_cmp-IsAntisymmetric (λ a. strictly_below a p) q (entries s.groups)
              (ap is_some (sym (get-entries s.groups q)) ∙ group_before q h) under) ∙ no_child in cc
        ] refl);
    homes = λ pid q h. left q (w.homes pid q h) (λ e.
        let f : true ≡ false =
        sym (value_passes nat_cmp (λ a. same_path a p) pid q (entries s.home) (sym (get-entries s.home pid) ∙ h) (ap (λ a. same_path a p) e
        ∙ same_path_itself p)) ∙ no_member in cc);
    few = subst (λ n. n ≤ slots + 1) (sym (len-remove path_cmp-IsTotalOrder s.groups p)) (one_less _ _ _ w.few);
    totals = λ q attr h. w.totals q attr (there_before q attr h);
    peaks = λ q attr h r. w.peaks q attr (there_before q attr h) r;
    root_peak = λ attr h. w.root_peak attr (there_before [] attr h);
  }

four : (a b c d : Bool) (p : Path) → refuse a RootFixed (refuse b (NoGroup p) (refuse c HasChildren (refuse d HasProcesses None))) ≡ None → (a ≡ false) × (b ≡ false) × (c ≡ false) × (d ≡ false)
four true b c d p e = cc
four false true c d p e = cc
four false false true d p e = cc
four false false false true p e = cc
four false false false false p e = (refl, refl, refl, refl)

-- the tests that a new group passes
makes : (a b : Bool) (q : Path) (o : Option Refusal) (d : Bool) → refuse a Exists (refuse b (NoGroup q) (option_or o (refuse d NoSlot None))) ≡ None → (b ≡ false) × (d ≡ false) × (a ≡ false)
makes true b q o d e = cc
makes false true q o d e = cc
makes false false q None true e = cc
makes false false q None false e = (refl, refl, refl)
makes false false q (Some r) d e = cc

kept_len : (b : Bool) (n : ℕ) → b ≡ true → cond b n (n + 1) ≡ n
kept_len b n e = ap (λ c. cond c n (n + 1)) e

-- an accepted command keeps a state well formed
pub kept : (slots : ℕ) (s : State) (c : Command) → WellFormed slots s → refusal slots s c ≡ None → WellFormed slots (after s c)
kept slots s (MakeGroup p) w e =
    let tests = makes (is_group s p) (not (is_group s (parent p))) (parent p) (blocked_make s p) (ltb slots (len s.groups)) e in
    let nobody = nobody_without_group slots s p w tests.2 in
    with_group slots s w p fresh (not-false _ tests.0) (omega arith) (λ _. omega (arith, nobody)) (λ _. refl)
    (subst (λ n. n ≤ slots + 1) (sym (len-insert path_cmp-IsTotalOrder s.groups p fresh))
    (one_more (is_group s p) _ _ (ltb-false slots (len s.groups) tests.1)))
kept slots s (RemoveGroup p) w e =
    let tests = four (is_root p) (not (is_group s p)) (list_any (λ q. strictly_below q p) (keys s.groups)) (list_any (λ q. same_path q p) (values s.home)) p e in
    without_group slots s w p tests.0 tests.2 tests.3
kept slots s (Fork from child) w e = with_process slots s w child (home_of s from) (at_home (get s.home from) refl (not-false _ (passed _ _ _ e)))
  where
    at_home : (o : Option Path) → get s.home from ≡ o → is_some o ≡ true → is_group s (unwrap_or o []) ≡ true
    at_home None is h = cc
    at_home (Some q) is h = w.homes from q is
kept slots s (Exit pid) w e = fewer slots s w (remove s.home pid) (others slots s w pid)
kept slots s (Move p pid) w e = with_process slots s w pid p (not-false _ (passed _ _ _ e))
kept slots s (SetLimit p file value) w e =
    let there = not-false _ (passed _ _ _ (beyond _ _ _ e)) in
    with_group slots s w p _ (w.parents p there)
    (even_limit file value _ (even_own (get s.groups p) (w.totals p)))
    (λ r. subst (λ n. current s p ≤ n) (sym (limit_peak file value (attr_of s p))) (own_peak (get s.groups p) refl there r))
    (λ r. limit_peak file value (attr_of s p) ∙ bare_root p r (get s.groups p) refl there)
    (subst (λ n. n ≤ slots + 1) (sym (len-insert path_cmp-IsTotalOrder s.groups p (with_limit file value (attr_of s p)) ∙ kept_len _ _ there)) w.few)
  where
    own_peak : (o : Option Attr) → get s.groups p ≡ o → is_some o ≡ true → is_root p ≡ false → current s p ≤ (unwrap_or o fresh).peak
    own_peak None is h r = cc
    own_peak (Some x) is h r = w.peaks p x is r

    bare_root : (q : Path) → is_root q ≡ true → (o : Option Attr) → get s.groups q ≡ o → is_some o ≡ true → (unwrap_or o fresh).peak ≡ 0
    bare_root q r None is h = cc
    bare_root [] r (Some x) is h = w.root_peak x is
    bare_root (n ∷ q) r (Some x) is h = cc
kept slots s (Kill g) w e = fewer slots s w (retain_keys s.home (λ pid. not (lives_in s g pid))) (left_over slots s w (λ pid. not (lives_in s g pid)))
kept slots s (Show p file) w e = w
kept slots s (Locate pid) w e = w
kept slots s Undo w e = w
