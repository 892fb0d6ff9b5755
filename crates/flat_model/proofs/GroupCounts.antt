-- The count of a group is the sum of its own members and of its children's counts.
use Rattle.std.proofs.Common.{◌≡◌, ℕ, zero, suc, ◌+◌, ◌-◌, ◌<◌, ◌≤◌, Bool, true, false, cond, not, ◌&&◌, ◌↔◌, T, List, [], ◌∷◌, map, length, ltb-true, lt-ltb}
use Rattle.std.proofs.Common.{take, Some, None, refl, sym, ap, subst, ◌∙◌, is_some, ltb, arith}
use Rattle.std.proofs.lemmas.Bool.Decides.{nat_tests}
use Rattle.std.proofs.lemmas.List.{length-take-le}
use Rattle.std.proofs.lemmas.List.Sums.{sum_by-cons, length-filter}
use Rattle.std.proofs.Math.Seq.{take-length}
use Rattle.std.proofs.lemmas.List.{length-map}
use Rattle.std.specs.Prelude.{count_by, sum_by, filter}
use Rattle.std.specs.List.{AllByRecursion}
use Rattle.std.specs.Cmp.{IsTotalOrder, nat_cmp_total, Equal-is}
use Rattle.std.specs.declared.cmp.Ordering.{Ordering}
use Rattle.std.specs.declared.cmp.Ordering.TheVariants.{Less, Equal, Greater}
use Rattle.std.specs.Ordering.{nat_cmp, eq_by_cmp, is_lt, is_eq}
use Rattle.std.specs.FinMap.{IsAntisymmetric, nat_cmp-IsAntisymmetric, entries, keys, values, find, is_sorted, get-entries, entries_sorted}
use Rattle.std.specs.FinMap.Entries.{below_all}
use Rattle.std.proofs.lemmas.Cmp.{eq_by_cmp_equiv}
use Rattle.std.proofs.lemmas.Bool.{and_parts, false_from_ne_true}
use Rattle.flat_model.specs.Path.{Path, path_cmp, parent, is_root, at_or_below, same_path}
use Rattle.flat_model.specs.State.{State}
use Rattle.flat_model.specs.Counts.{is_group, current, populated, members, children, IsInhabited}
use Rattle.flat_model.specs.WellFormed.{WellFormed}
use Rattle.flat_model.proofs.PathLaws.{path_cmp-IsTotalOrder, path_cmp-IsAntisymmetric, same_path_is, same_path_itself, at_or_below_itself}
use Rattle.flat_model.proofs.PathLaws.{at_or_below_take, at_or_below_through, at_or_below_length, take_above, parent_above}
use Rattle.flat_model.proofs.Maps.{key_of}
use Rattle.flat_model.proofs.Sums.{count_by-cons, count_by-map, count_by-filter, count_none, sum_by-plus, sum_by-same, sum_by-zero}
use Rattle.flat_model.proofs.Booleans.{both}

-- ---- one key among sorted keys

front : (a b : Bool) → T (a && b) → (a ≡ true) × T b
front true b h = (refl, h)
front false b h = absurd h

module _ {K : Type 0} {R : K → K → Ordering} (o : IsTotalOrder R) where
  itself : (k : K) → R k k ≡ Equal
  itself k = (Equal-is (R k k)).0 ((eq_by_cmp_equiv o).refl k)

  not_itself : (k : K) → is_lt (R k k) ≡ true → ⊥
  not_itself k h = let f : false ≡ true = sym (ap is_lt (itself k)) ∙ h in cc

module _ {K X : Type 0} {R : K → K → Ordering} (o : IsTotalOrder R) (same : IsAntisymmetric R) where
  -- what passes at q alone passes nowhere behind q
  none_behind : (P : K → Bool) (q : K) → ((k : K) → P k ≡ true → k ≡ q) → (es : List (K × X)) → T (below_all R q es) → count_by P (map (λ e. e.0) es) ≡ 0
  none_behind P q only [] h = refl
  none_behind P q only (e ∷ es) h =
      let two = front (is_lt (R q e.0)) (below_all R q es) h in
      let rest = none_behind P q only es two.1 in
      count_by-cons P e.0 (map (λ x. x.0) es)
      ∙ elim (P e.0) as (λ b. P e.0 ≡ b → cond b 1 0 + count_by P (map (λ x. x.0) es) ≡ 0) [
        | true ↦ λ t. absurd (not_itself o q (ap (λ (k : K). is_lt (R q k)) (sym (only e.0 t)) ∙ two.0))
        | false ↦ λ t. omega (arith, rest)
      ] refl

  -- and once in all, where q is a key
  pub once_among : (P : K → Bool) (q : K) → ((k : K) → P k ≡ true → k ≡ q) → P q ≡ true → (es : List (K × X)) → T (is_sorted R es) → is_some (find R q es) ≡ true → count_by P (map (λ e. e.0) es) ≡ 1
  once_among P q only there [] s h = cc
  once_among P q only there (e ∷ es) s h =
      let two = both (below_all R e.0 es) (is_sorted R es) s in
      elim (eq_by_cmp R q e.0) as (λ b. eq_by_cmp R q e.0 ≡ b → is_some (cond b (Some e.1) (find R q es)) ≡ true → count_by P (map (λ x. x.0) (e ∷ es)) ≡ 1) [
        | true ↦ λ t is.
            let at : q ≡ e.0 = key_of same q e.0 t in
            let rest = none_behind P q only es (subst (λ (k : K). T (below_all R k es)) (sym at) two.0) in
            count_by-cons P e.0 (map (λ x. x.0) es) ∙ ap (λ b. cond b 1 0 + count_by P (map (λ x. x.0) es)) (ap P (sym at) ∙ there) ∙ (omega (arith, rest))
        | false ↦ λ t is.
            let rest = once_among P q only there es two.1 is in
            count_by-cons P e.0 (map (λ x. x.0) es)
            ∙ elim (P e.0) as (λ b. P e.0 ≡ b → cond b 1 0 + count_by P (map (λ x. x.0) es) ≡ 1) [
              | true ↦ λ p. let f : true ≡ false = sym ((eq_by_cmp_equiv o).refl q) ∙ ap (eq_by_cmp R q) (sym (only e.0 p)) ∙ t in cc
              | false ↦ λ p. omega (arith, rest)
            ] refl
      ] refl h

-- ---- the child of g on the way down to h

take_short : (n : ℕ) (h : Path) → take n (take (suc n) h) ≡ take n h
take_short zero h = refl
take_short (suc n) [] = refl
take_short (suc n) (x ∷ h) = ap (λ (q : Path). x ∷ q) (take_short n h)

parent_take : (h : Path) (n : ℕ) → suc n ≤ length h → parent (take (suc n) h) ≡ take n h
parent_take h n l =
    let len = length-take-le (suc n) h l in
    let k : length (take (suc n) h) - 1 ≡ n = omega (arith, len) in
    ap (λ m. take m (take (suc n) h)) k ∙ take_short n h

-- each group on the way from the root to a group is one
pub prefix_is_group : (slots : ℕ) (s : State) → WellFormed slots s → (h : Path) → is_group s h ≡ true → (k n : ℕ) → n + k ≡ length h → is_group s (take n h) ≡ true
prefix_is_group slots s w h g zero n e = let l : n ≡ length h = omega arith in ap (λ m. is_group s (take m h)) l ∙ ap (is_group s) (take-length h) ∙ g
prefix_is_group slots s w h g (suc k) n e =
    let up = prefix_is_group slots s w h g k (suc n) (omega arith) in
    ap (is_group s) (sym (parent_take h n (omega arith))) ∙ w.parents (take (suc n) h) up

-- each group above a group is one
pub groups_above : (slots : ℕ) (s : State) (p q : Path) → WellFormed slots s → is_group s p ≡ true → at_or_below p q ≡ true → is_group s q ≡ true
groups_above slots s p q w there above =
    let short = at_or_below_length p q above in
    ap (is_group s) (at_or_below_take p q above) ∙ prefix_is_group slots s w p there (length p - length q) (length q) (omega arith)

abbrev is_child : Path → Path → Bool
is_child g p = not (is_root p) && same_path (parent p) g

-- the child of g that h is in
abbrev leads : Path → Path → Path → Bool
leads g h p = is_child g p && at_or_below h p

pub record IsChild (g p : Path) : Type 0 where
  pub long : 0 < length p
  pub up : parent p ≡ g

child_by : (g p : Path) → is_child g p ≡ true → IsChild g p
child_by g [] e = cc
child_by g (x ∷ p) e = record { long = omega arith; up = (same_path_is (parent (x ∷ p)) g).0 e }

child_length : (g p : Path) → IsChild g p → length p ≡ length g + 1
child_length g p c =
    let long = c.long in
    let len = length-take-le (length p - 1) p (omega arith) in
    let e = ap length c.up in omega (arith, len, e)

-- it is the front of h with one name more than g has
leads_is : (g h p : Path) → leads g h p ≡ true → p ≡ take (suc (length g)) h
leads_is g h p e =
    let two = and_parts (is_child g p) (at_or_below h p) e in
    let len = child_length g p (child_by g p two.0) in
    at_or_below_take h p two.1 ∙ ap (λ n. take n h) (let k : length p ≡ suc (length g) = omega (arith, len) in k)

leads_below : (g h p : Path) → leads g h p ≡ true → at_or_below h g ≡ true
leads_below g h p e =
    let two = and_parts (is_child g p) (at_or_below h p) e in
    at_or_below_through h p g two.1 (subst (λ (q : Path). at_or_below p q ≡ true) (child_by g p two.0).up (parent_above p))

leads_long : (g h p : Path) → leads g h p ≡ true → length g < length h
leads_long g h p e =
    let two = and_parts (is_child g p) (at_or_below h p) e in
    let len = child_length g p (child_by g p two.0) in
    let short = at_or_below_length h p two.1 in omega (arith, len, short)

is_child_front : (g p : Path) → 0 < length p → parent p ≡ g → is_child g p ≡ true
is_child_front g [] l e = absurd (omega arith)
is_child_front g (x ∷ p) l e = (same_path_is (parent (x ∷ p)) g).1 e

-- the front of h leads to it
front_leads : (g h : Path) → at_or_below h g ≡ true → length g < length h → leads g h (take (suc (length g)) h) ≡ true
front_leads g h below long =
    let len = length-take-le (suc (length g)) h (omega arith) in
    let up : parent (take (suc (length g)) h) ≡ g = parent_take h (length g) (omega arith) ∙ sym (at_or_below_take h g below) in
    λ i. is_child_front g (take (suc (length g)) h) (omega (arith, len)) up i && take_above (suc (length g)) h i

-- ---- one process

module _ (slots : ℕ) (s : State) (w : WellFormed slots s) (g : Path) where
  ks : List Path
  ks = keys s.groups

  -- how many of g's children h is in
  inside : Path → ℕ
  inside h = count_by (leads g h) (keys s.groups)

  longer : (h : Path) → at_or_below h g ≡ true → same_path h g ≡ false → length g < length h
  longer h below apart =
      let short = at_or_below_length h g below in
      by (ltb (length g) (length h)) refl short
    where
      by : (b : Bool) → ltb (length g) (length h) ≡ b → length g ≤ length h → length g < length h
      by true e l = grind (arith, nat_tests)
      by false e l =
          let eq : length g ≡ length h = grind (arith, nat_tests) in
          let is : g ≡ h = at_or_below_take h g below ∙ ap (λ n. take n h) eq ∙ take-length h in
          let f : true ≡ false = sym (same_path_itself h) ∙ ap (same_path h) (sym is) ∙ apart in cc

  -- a process of g or below it is a member of g, or in one child of g
  one_home : (h : Path) → is_group s h ≡ true → cond (at_or_below h g) 1 0 ≡ cond (same_path h g) 1 0 + count_by (leads g h) (keys s.groups)
  one_home h there =
      elim (same_path h g) as (λ b. same_path h g ≡ b → cond (at_or_below h g) 1 0 ≡ cond b 1 0 + count_by (leads g h) (keys s.groups)) [
        | true ↦ λ t.
            let is : h ≡ g = (same_path_is h g).0 t in
            let none = count_none (leads g h) (keys s.groups) (λ p. false_from_ne_true (leads g h p) (λ l. let k = leads_long g h p l in let e = ap length is in absurd (omega (arith, k, e)))) in
            let below : at_or_below h g ≡ true = ap (λ (q : Path). at_or_below q g) is ∙ at_or_below_itself g in
            ap (λ b. cond b 1 0) below ∙ (omega (arith, none))
        | false ↦ λ t.
            elim (at_or_below h g) as (λ b. at_or_below h g ≡ b → cond b 1 0 ≡ 0 + count_by (leads g h) (keys s.groups)) [
              | true ↦ λ below.
                  let long = longer h below t in
                  let there_is : is_some (find path_cmp (take (suc (length g)) h) (entries s.groups)) ≡ true =
                  ap is_some (sym (get-entries s.groups (take (suc (length g)) h)))
                  ∙ prefix_is_group slots s w h there (length h - suc (length g)) (suc (length g)) (omega arith) in
                  let one = once_among path_cmp-IsTotalOrder path_cmp-IsAntisymmetric (leads g h) (take (suc (length g)) h) (leads_is g h)
                  (front_leads g h below long) (entries s.groups) (entries_sorted s.groups) there_is in
                  omega (arith, one)
              | false ↦ λ off.
                  let none = count_none (leads g h) (keys s.groups) (λ p. false_from_ne_true (leads g h p) (λ l. let f : true ≡ false = sym (leads_below g h p l) ∙ off in cc)) in
                  omega (arith, none)
            ] refl
      ] refl

-- ---- all processes

AllGroups : State → List Path → Type 0
AllGroups s hs = AllByRecursion (λ h. is_group s h ≡ true) hs

-- the counts of the children, process by process
pub swap_sums : (cs hs : List Path) → sum_by (λ c. count_by (λ p. at_or_below p c) hs) cs ≡ sum_by (λ h. count_by (λ c. at_or_below h c) cs) hs
swap_sums cs [] = sum_by-zero cs
swap_sums cs (h ∷ hs) =
    sum_by-same (λ c. count_by (λ p. at_or_below p c) (h ∷ hs)) (λ c. cond (at_or_below h c) 1 0 + count_by (λ p. at_or_below p c) hs) cs (λ c. count_by-cons (λ p. at_or_below p c) h hs)
    ∙ sum_by-plus (λ c. cond (at_or_below h c) 1 0) (λ c. count_by (λ p. at_or_below p c) hs) cs
    ∙ ap (λ n. count_by (λ c. at_or_below h c) cs + n) (swap_sums cs hs)
    ∙ sym (sum_by-cons (λ h. count_by (λ c. at_or_below h c) cs) h hs)

module _ (slots : ℕ) (s : State) (w : WellFormed slots s) (g : Path) where
  pub all_homes : (hs : List Path) → AllByRecursion (λ h. is_group s h ≡ true) hs →
      count_by (λ p. at_or_below p g) hs ≡ count_by (λ p. same_path p g) hs + sum_by (λ h. count_by (λ c. at_or_below h c) (children s g)) hs
  all_homes [] h = omega arith
  all_homes (x ∷ hs) h =
      let one = one_home slots s w g x h.0 in
      let rest = all_homes hs h.1 in
      let a = count_by-cons (λ p. at_or_below p g) x hs in
      let b = count_by-cons (λ p. same_path p g) x hs in
      let c = sum_by-cons (λ h. count_by (λ c. at_or_below h c) (children s g)) x hs in
      let d : count_by (λ c. at_or_below x c) (children s g) ≡ count_by (leads g x) (keys s.groups) = count_by-filter (λ c. at_or_below x c) (is_child g) (keys s.groups) in
      omega (arith, one, rest, a, b, c, d)

-- ---- entries and look-ups

less_apart : (r : Ordering) → is_lt r ≡ true → is_eq r ≡ false
less_apart Less e = refl
less_apart Equal e = cc
less_apart Greater e = cc

module _ {X : Type 0} where
  pub find_behind : (q : ℕ) (es : List (ℕ × X)) → T (below_all nat_cmp q es) → find nat_cmp q es ≡ None
  find_behind q [] h = refl
  find_behind q (e ∷ es) h =
      let two = front (is_lt (nat_cmp q e.0)) (below_all nat_cmp q es) h in
      ap (λ b. cond b (Some e.1) (find nat_cmp q es)) (less_apart (nat_cmp q e.0) two.0) ∙ find_behind q es two.1

  pub find_first : (e : ℕ × X) (es : List (ℕ × X)) → find nat_cmp e.0 (e ∷ es) ≡ Some e.1
  find_first e es = ap (λ b. cond b (Some e.1) (find nat_cmp e.0 es)) ((eq_by_cmp_equiv nat_cmp_total).refl e.0)

  -- what is found behind the first entry is found in the whole
  pub find_later : (e : ℕ × X) (es : List (ℕ × X)) (pid : ℕ) (x : X) → T (is_sorted nat_cmp (e ∷ es)) → find nat_cmp pid es ≡ Some x → find nat_cmp pid (e ∷ es) ≡ Some x
  find_later e es pid x s h =
      elim (eq_by_cmp nat_cmp pid e.0) as (λ b. eq_by_cmp nat_cmp pid e.0 ≡ b → cond b (Some e.1) (find nat_cmp pid es) ≡ Some x) [
        | true ↦ λ t. let n = find_behind e.0 es (both (below_all nat_cmp e.0 es) (is_sorted nat_cmp es) s).0 in
            let same = ap (λ (k : ℕ). find nat_cmp k es) (key_of nat_cmp-IsAntisymmetric pid e.0 t) in cc
        | false ↦ λ t. h
      ] refl

-- the homes of a well-formed state are groups
homes_of : (s : State) (es : List (ℕ × Path)) → T (is_sorted nat_cmp es)
    → ((pid : ℕ) (p : Path) → find nat_cmp pid es ≡ Some p → is_group s p ≡ true)
    → AllByRecursion (λ h. is_group s h ≡ true) (map (λ e. e.1) es)
homes_of s [] k h = tt
homes_of s (e ∷ es) k h = (
  h e.0 e.1 (find_first e es),
  homes_of s es (both (below_all nat_cmp e.0 es) (is_sorted nat_cmp es) k).1 (λ pid p f. h pid p (find_later e es pid p k f)),
)

-- the count of a group is its own members and what its children count
pub current_is : (slots : ℕ) (s : State) → WellFormed slots s → (g : Path) → current s g ≡ length (members s g) + sum_by (current s) (children s g)
current_is slots s w g =
    let homes = homes_of s (entries s.home) (entries_sorted s.home) (λ pid p f. w.homes pid p (get-entries s.home pid ∙ f)) in
    let whole = all_homes slots s w g (values s.home) homes in
    let own : length (members s g) ≡ count_by (λ p. same_path p g) (values s.home) =
    length-map (filter (λ e. same_path e.1 g) (entries s.home)) (λ e. e.0)
    ∙ length-filter (λ e. same_path e.1 g) (entries s.home)
    ∙ sym (count_by-map (λ p. same_path p g) (λ e. e.1) (entries s.home)) in
    let below = swap_sums (children s g) (values s.home) in
    omega (arith, whole, own, below)

-- ---- populated

pub record Found (P : Path → Bool) (es : List (ℕ × Path)) : Type 0 where
  pub pid : ℕ
  pub at : Path
  pub home : find nat_cmp pid es ≡ Some at
  pub passes : P at ≡ true

pub found_by : (P : Path → Bool) (es : List (ℕ × Path)) → T (is_sorted nat_cmp es) → 0 < count_by P (map (λ e. e.1) es) → Found P es
found_by P [] s h = absurd (omega arith)
found_by P (e ∷ es) s h =
    let two = both (below_all nat_cmp e.0 es) (is_sorted nat_cmp es) s in
    let c = count_by-cons P e.1 (map (λ x. x.1) es) in
    elim (P e.1) as (λ b. P e.1 ≡ b → count_by P (map (λ x. x.1) (e ∷ es)) ≡ cond b 1 0 + count_by P (map (λ x. x.1) es) → Found P (e ∷ es)) [
      | true ↦ λ t is. record { pid = e.0; at = e.1; home = find_first e es; passes = t }
      | false ↦ λ t is. let r = found_by P es two.1 (omega (arith, is, h)) in
          record { pid = r.pid; at = r.at; home = find_later e es r.pid r.at s r.home; passes = r.passes }
    ] refl c

pub counted_by : (P : Path → Bool) (es : List (ℕ × Path)) (pid : ℕ) (at : Path) → find nat_cmp pid es ≡ Some at → P at ≡ true → 0 < count_by P (map (λ e. e.1) es)
counted_by P [] pid at f t = cc
counted_by P (e ∷ es) pid at f t =
    let c = count_by-cons P e.1 (map (λ x. x.1) es) in
    elim (eq_by_cmp nat_cmp pid e.0) as (λ b. cond b (Some e.1) (find nat_cmp pid es) ≡ Some at → 0 < count_by P (map (λ x. x.1) (e ∷ es))) [
      | true ↦ λ is. let same : e.1 ≡ at = cc in let one : ◌≡◌ {A = ℕ} (cond (P e.1) 1 0) 1 = ap (λ b. cond b 1 0) (ap P same ∙ t) in omega (arith, c, one)
      | false ↦ λ is. let r = counted_by P es pid at is t in omega (arith, c, r)
    ] f

-- populated says whether some process is there
pub populated_is : (s : State) (g : Path) → (populated s g ≡ true) ↔ IsInhabited s g
populated_is s g = (
  λ e. let f = found_by (λ p. at_or_below p g) (entries s.home) (entries_sorted s.home) (ltb-true 0 (current s g) e) in
      record { pid = f.pid; at = f.at; home = get-entries s.home f.pid ∙ f.home; below = f.passes },
  λ i. lt-ltb 0 (current s g) (counted_by (λ p. at_or_below p g) (entries s.home) i.pid i.at (sym (get-entries s.home i.pid) ∙ i.home) i.below),
)

-- nobody is where there is no group
pub nobody_without_group : (slots : ℕ) (s : State) (p : Path) → WellFormed slots s → is_group s p ≡ false → current s p ≡ 0
nobody_without_group slots s p w gone = by (current s p) (false_from_ne_true (populated s p) (λ e.
    let at = (populated_is s p).0 e in
    let f : true ≡ false = sym (groups_above slots s at.at p w (w.homes at.pid at.at at.home) at.below) ∙ gone in cc))
  where
    by : (n : ℕ) → ltb 0 n ≡ false → n ≡ 0
    by n e = grind (arith, nat_tests)
