-- What a command leaves, as lists of entries.
use Rattle.std.proofs.Common.{◌≡◌, ℕ, arith, Bool, true, false, cond, not, List, [], ◌∷◌, map, length, refl, ap, sym, ◌∙◌, Option, None}
use Rattle.std.specs.Prelude.{filter, max, count_by}
use Rattle.std.specs.Cmp.{IsTotalOrder, nat_cmp_total}
use Rattle.std.specs.FinMap.{FinMap, IsAntisymmetric, nat_cmp-IsAntisymmetric, insert, retain_keys, remove, from_entries, entries, put}
use Rattle.std.specs.FinMap.{entries_sorted, get-entries, get-retain_keys, get-remove, entries-insert, empty, len-empty, len-entries}
use Rattle.std.specs.FinMap.Entries.{same_entries, is_sorted-where_key, find-where_key}
use Rattle.std.specs.Ordering.{nat_cmp, eq_by_cmp}
use Rattle.std.specs.declared.cmp.Ordering.{Ordering}
use Rattle.flat_model.specs.Path.{Path, path_cmp, at_or_below}
use Rattle.flat_model.specs.State.{State, Attr, fresh, start}
use Rattle.flat_model.specs.Command.{Command, MakeGroup, RemoveGroup, Fork, Exit, Move, SetLimit, Kill, Show, Locate, Undo, Refusal, Exists}
use Rattle.flat_model.specs.Command.{NoGroup, Descendants, Depth, NoSlot, RootFixed, HasChildren, HasProcesses, NoProcess, PidInUse}
use Rattle.flat_model.specs.Command.{OverPidsMax, NoFile, NotReadable}
use Rattle.flat_model.specs.Step.{with_limit, is_within, after, count_up, after_refusal, counts_for, raise_peak, raise_peaks, home_of}
use Rattle.flat_model.proofs.PathLaws.{path_cmp-IsTotalOrder, path_cmp-IsAntisymmetric}
use Rattle.flat_model_laws.proofs.ExamplesReads.{Lists, lists_of, reads_in, reads_are, home_by, attr_by}

-- a test turned round
turned : {A : Type 0} (b : Bool) (x y : A) → cond b x y ≡ cond (not b) y x
turned true x y = refl
turned false x y = refl

module _ {K X : Type 0} {R : K → K → Ordering} (o : IsTotalOrder R) (same : IsAntisymmetric R) where
  -- maps with the same look-ups have the same entries
  entries-retain_keys : (m : FinMap R X) (p : K → Bool) → entries (retain_keys m p) ≡ filter (λ e. p e.0) (entries m)
  entries-retain_keys m p =
      same_entries R o same (entries (retain_keys m p)) (filter (λ e. p e.0) (entries m)) (entries_sorted (retain_keys m p)) (is_sorted-where_key R p (entries m) (entries_sorted m))
      (λ q. sym (get-entries (retain_keys m p) q)
      ∙ get-retain_keys m p q (λ x e. ap p (sym (same q x e)))
      ∙ ap (λ (a : Option X). cond (p q) a None) (get-entries m q)
      ∙ sym (find-where_key R p q (λ x e. ap p (sym (same q x e))) (entries m)))

  entries-remove : (m : FinMap R X) (k : K) → entries (remove m k) ≡ filter (λ e. not (eq_by_cmp R e.0 k)) (entries m)
  entries-remove m k =
      let p = λ (x : K). not (eq_by_cmp R x k) in
      same_entries R o same (entries (remove m k)) (filter (λ e. p e.0) (entries m)) (entries_sorted (remove m k)) (is_sorted-where_key R p (entries m) (entries_sorted m))
      (λ q. sym (get-entries (remove m k) q)
      ∙ get-remove o m k q
      ∙ ap (λ (a : Option X). cond (eq_by_cmp R q k) None a) (get-entries m q)
      ∙ turned (eq_by_cmp R q k) _ _
      ∙ sym (find-where_key R p q (λ x e. ap p (sym (same q x e))) (entries m)))

-- the entries put in their places one by one, the last first
abbrev pub put_all : List (Path × Attr) → List (Path × Attr)
put_all [] = []
put_all (e ∷ es) = put path_cmp e.0 e.1 (put_all es)

no_length : {A : Type 0} (es : List A) → length es ≡ 0 → es ≡ []
no_length [] e = refl
no_length (x ∷ es) e = absurd (omega arith)

entries-empty : entries (empty {X = Attr} {R = path_cmp}) ≡ []
entries-empty = no_length (entries empty) (sym (len-entries empty) ∙ len-empty path_cmp Attr)

no_homes : entries (empty {X = Path} {R = nat_cmp}) ≡ []
no_homes = no_length (entries empty) (sym (len-entries empty) ∙ len-empty nat_cmp Path)

entries-from_entries : (es : List (Path × Attr)) → entries (from_entries {R = path_cmp} es) ≡ put_all es
entries-from_entries [] = entries-empty
entries-from_entries (e ∷ es) = entries-insert path_cmp-IsTotalOrder (from_entries es) e.0 e.1 ∙ ap (put path_cmp e.0 e.1) (entries-from_entries es)

-- ---- an accepted command

-- the attributes of p once a process has come to a, among these homes
abbrev pub raise_by : List (ℕ × Path) → Path → Path → Attr → Attr
raise_by homes a p attr = record attr { peak = cond (counts_for a p) (max attr.peak (count_by (λ q. at_or_below q p) (map (λ e. e.1) homes))) attr.peak }

-- a process put into a group, with the peaks raised
abbrev pub come : Lists → ℕ → Path → Lists
come l pid a = record { groups = put_all (map (λ e. (e.0, raise_by (put nat_cmp pid a l.home) a e.0 e.1)) l.groups); home = put nat_cmp pid a l.home }

abbrev pub leaves : Lists → Command → Lists
leaves l (MakeGroup p) = record { groups = put path_cmp p fresh l.groups; home = l.home }
leaves l (RemoveGroup p) = record { groups = filter (λ e. not (eq_by_cmp path_cmp e.0 p)) l.groups; home = l.home }
leaves l (Fork from child) = come l child (home_by (reads_in l) from)
leaves l (Exit pid) = record { groups = l.groups; home = filter (λ e. not (eq_by_cmp nat_cmp e.0 pid)) l.home }
leaves l (Move p pid) = come l pid p
leaves l (SetLimit p file value) = record { groups = put path_cmp p (with_limit file value (attr_by (reads_in l) p)) l.groups; home = l.home }
leaves l (Kill g) = record { groups = l.groups; home = filter (λ e. not (is_within g ((reads_in l).home e.0))) l.home }
leaves l (Show p file) = l
leaves l (Locate pid) = l
leaves l Undo = l

-- the lists, one of them changed
in_groups : (s : State) {gs hs : List (Path × Attr)} → gs ≡ hs → ◌≡◌ {A = Lists} (record { groups = gs; home = entries s.home }) (record { groups = hs; home = entries s.home })
in_groups s e = λ i. record { groups = e i; home = entries s.home }

in_home : (s : State) {gs hs : List (ℕ × Path)} → gs ≡ hs → ◌≡◌ {A = Lists} (record { groups = entries s.groups; home = gs }) (record { groups = entries s.groups; home = hs })
in_home s e = λ i. record { groups = entries s.groups; home = e i }

come_leaves : (s : State) (pid : ℕ) (a : Path) → lists_of (raise_peaks a (record s { home = insert s.home pid a })) ≡ come (lists_of s) pid a
come_leaves s pid a =
    let homes = entries-insert nat_cmp_total s.home pid a in λ i. record {
      groups = (entries-from_entries (map (λ e. (e.0, raise_peak (record s { home = insert s.home pid a }) a e.0 e.1)) (entries s.groups))
          ∙ ap (λ (hs : List (ℕ × Path)). put_all (map (λ e. (e.0, raise_by hs a e.0 e.1)) (entries s.groups))) homes) i;
      home = homes i;
    }

-- the entries of what an accepted command leaves
pub after_leaves : (s : State) (c : Command) → lists_of (after s c) ≡ leaves (lists_of s) c
after_leaves s (MakeGroup p) = in_groups s (entries-insert path_cmp-IsTotalOrder s.groups p fresh)
after_leaves s (RemoveGroup p) = in_groups s (entries-remove path_cmp-IsTotalOrder path_cmp-IsAntisymmetric s.groups p)
after_leaves s (Fork from child) = come_leaves s child (home_of s from) ∙ ap (λ r. come (lists_of s) child (home_by r from)) (reads_are s)
after_leaves s (Exit pid) = in_home s (entries-remove nat_cmp_total nat_cmp-IsAntisymmetric s.home pid)
after_leaves s (Move p pid) = come_leaves s pid p
after_leaves s (SetLimit p file value) =
    in_groups s (entries-insert path_cmp-IsTotalOrder s.groups p _
    ∙ ap (λ r. put path_cmp p (with_limit file value (attr_by r p)) (entries s.groups)) (reads_are s))
after_leaves s (Kill g) = in_home s (entries-retain_keys nat_cmp_total nat_cmp-IsAntisymmetric s.home _ ∙ ap (λ r. filter (λ e. not (is_within g (r.home e.0))) (entries s.home)) (reads_are s))
after_leaves s (Show p file) = refl
after_leaves s (Locate pid) = refl
after_leaves s Undo = refl

-- ---- a refusal

abbrev pub refusal_leaves : Lists → Refusal → Lists
refusal_leaves l (OverPidsMax a) = record { groups = put_all (map (λ e. (e.0, count_up a e.0 e.1)) l.groups); home = l.home }
refusal_leaves l Exists = l
refusal_leaves l (NoGroup p) = l
refusal_leaves l (Descendants p) = l
refusal_leaves l (Depth p) = l
refusal_leaves l NoSlot = l
refusal_leaves l RootFixed = l
refusal_leaves l HasChildren = l
refusal_leaves l HasProcesses = l
refusal_leaves l (NoProcess p) = l
refusal_leaves l (PidInUse p) = l
refusal_leaves l NoFile = l
refusal_leaves l NotReadable = l

-- the entries of what a refusal leaves
pub after_refusal_leaves : (s : State) (r : Refusal) → lists_of (after_refusal s r) ≡ refusal_leaves (lists_of s) r
after_refusal_leaves s (OverPidsMax a) = in_groups s (entries-from_entries (map (λ e. (e.0, count_up a e.0 e.1)) (entries s.groups)))
after_refusal_leaves s Exists = refl
after_refusal_leaves s (NoGroup p) = refl
after_refusal_leaves s (Descendants p) = refl
after_refusal_leaves s (Depth p) = refl
after_refusal_leaves s NoSlot = refl
after_refusal_leaves s RootFixed = refl
after_refusal_leaves s HasChildren = refl
after_refusal_leaves s HasProcesses = refl
after_refusal_leaves s (NoProcess p) = refl
after_refusal_leaves s (PidInUse p) = refl
after_refusal_leaves s NoFile = refl
after_refusal_leaves s NotReadable = refl

-- ---- the start

abbrev pub start_lists : Lists
start_lists = record { groups = ([], fresh) ∷ []; home = (1, []) ∷ [] }

pub start_leaves : lists_of start ≡ start_lists
start_leaves = λ i. record {
  groups = (entries-insert path_cmp-IsTotalOrder empty [] fresh ∙ ap (put path_cmp [] fresh) entries-empty) i;
  home = (entries-insert nat_cmp_total empty 1 [] ∙ ap (put nat_cmp 1 []) no_homes) i;
}
