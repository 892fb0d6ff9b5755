-- What each command asks for, and that it is accepted exactly where that is so.
use Rattle.std.proofs.Common.{◌≡◌, ◌≢◌, ℕ, ◌+◌, ◌<◌, ◌≤◌, ◌↔◌, Bool, true, false, cond, not, ◌&&◌, ◌||◌, ltb, List, [], ◌∷◌, Option, Some, None, refl, sym, ap, ◌∙◌, arith}
use Rattle.std.proofs.lemmas.Bool.Decides.{nat_tests}
use Rattle.std.specs.Prelude.{count_by}
use Rattle.std.specs.Option.{option_or}
use Rattle.std.specs.List.{list_any}
use Rattle.std.specs.FinMap.{get, len, keys, values, entries, entries_sorted, get-entries, contains_key-keys}
use Rattle.std.proofs.lemmas.Bool.{not-false, false_from_ne_true, or_right}
use Rattle.flat_model.specs.Path.{Path, parent, is_root, same_path, strictly_below}
use Rattle.flat_model.specs.State.{State, Limit}
use Rattle.flat_model.specs.Counts.{is_group, has_process}
use Rattle.flat_model.specs.File.{File, LimitFile, is_pids_max, readable, on_root}
use Rattle.flat_model.specs.Command.{MakeGroup, RemoveGroup, Fork, Exit, Move, SetLimit, Kill, Show, Locate, Refusal, Exists, NoGroup}
use Rattle.flat_model.specs.Command.{NoSlot, RootFixed, HasChildren, HasProcesses, NoProcess, NoFile, NotReadable}
use Rattle.flat_model.specs.Refuse.{refuse}
use Rattle.flat_model.specs.Step.{refusal, after, home_of, blocked_make}
use Rattle.flat_model.specs.Limiting.{IsWithinPids, HasRoomBelow}
use Rattle.flat_model.proofs.PathLaws.{same_path_is, same_path_itself, root_is_empty}
use Rattle.flat_model.proofs.Sums.{count_by-cons}
use Rattle.flat_model.proofs.GroupCounts.{found_by, counted_by}
use Rattle.flat_model.proofs.Booleans.{apart}
use Rattle.flat_model.proofs.RefusalTests.{passed, beyond, neither}
use Rattle.flat_model.proofs.Limits.{fork_passed, fork_within}
use Rattle.flat_model_laws.proofs.LimitsExact.{accepted_is}
use Rattle.flat_model_laws.proofs.HierarchyLimitsExact.{free_is}

-- ---- tests in their order

first_none : {R : Type 0} (o rest : Option R) → option_or o rest ≡ None → o ≡ None
first_none None rest e = refl
first_none (Some r) rest e = cc

two_pass : (a b : Bool) (r t : Refusal) → (refuse (not a) r (refuse (not b) t None) ≡ None) ↔ ((a ≡ true) × (b ≡ true))
two_pass a b r t = (
  λ e. (not-false a (passed (not a) r (refuse (not b) t None) e), not-false b (passed (not b) t None (beyond (not a) r (refuse (not b) t None) e))),
  λ h i. refuse (not (h.0 i)) r (refuse (not (h.1 i)) t None),
)

one_passes : (a : Bool) (r : Refusal) → (refuse (not a) r None ≡ None) ↔ (a ≡ true)
one_passes a r = (λ e. not-false a (passed (not a) r None e), λ h i. refuse (not (h i)) r None)

-- ---- the root

not_root : (p : Path) → (is_root p ≡ false) ↔ (p ≢ [])
not_root p = (λ f e. differ p e f, λ n. false_from_ne_true (is_root p) (λ t. n (root_is_empty p t)))
  where
    differ : (p : Path) → p ≡ [] → is_root p ≡ false → ⊥
    differ [] e f = cc
    differ (x ∷ p) e f = cc

-- ---- none of the keys, and none of the values

record Passing (test : Path → Bool) (ps : List Path) : Type 0 where
  path : Path
  passes : test path ≡ true
  among : list_any (same_path path) ps ≡ true

passing : (test : Path → Bool) (ps : List Path) → list_any test ps ≡ true → Passing test ps
passing test [] e = cc
passing test (p ∷ ps) e =
    elim (test p) as (λ b. test p ≡ b → (b || list_any test ps) ≡ true → Passing test (p ∷ ps)) [
      | true ↦ λ t h. record { path = p; passes = t; among = ap (λ b. b || list_any (same_path p) ps) (same_path_itself p) }
      | false ↦ λ t h. let r = passing test ps h in record { path = r.path; passes = r.passes; among = or_right (same_path r.path p) (list_any (same_path r.path) ps) r.among }
    ] refl e

passes_among : (test : Path → Bool) (q : Path) (ps : List Path) → test q ≡ true → list_any (same_path q) ps ≡ true → list_any test ps ≡ true
passes_among test q [] t e = cc
passes_among test q (p ∷ ps) t e =
    elim (same_path q p) as (λ b. same_path q p ≡ b → (b || list_any (same_path q) ps) ≡ true → list_any test (p ∷ ps) ≡ true) [
      | true ↦ λ s h. ap (λ b. b || list_any test ps) (ap test (sym ((same_path_is q p).0 s)) ∙ t)
      | false ↦ λ s h. or_right (test p) (list_any test ps) (passes_among test q ps t h)
    ] refl e

no_group : (s : State) (test : Path → Bool) → (list_any test (keys s.groups) ≡ false) ↔ ((q : Path) → is_group s q ≡ true → test q ≡ false)
no_group s test = (
  λ f q g. false_from_ne_true (test q) (λ t. apart (list_any test (keys s.groups)) (passes_among test q (keys s.groups) t (sym (contains_key-keys s.groups q) ∙ g)) f),
  λ h. false_from_ne_true (list_any test (keys s.groups)) (λ t. let r = passing test (keys s.groups) t in apart (test r.path) r.passes (h r.path (contains_key-keys s.groups r.path ∙ r.among))),
)

any_counts : (test : Path → Bool) (ps : List Path) → list_any test ps ≡ true → 0 < count_by test ps
any_counts test [] e = cc
any_counts test (p ∷ ps) e =
    elim (test p) as (λ b. (b || list_any test ps) ≡ true → count_by test (p ∷ ps) ≡ cond b 1 0 + count_by test ps → 0 < count_by test (p ∷ ps)) [
      | true ↦ λ h c. omega (arith, c)
      | false ↦ λ h c. let r = any_counts test ps h in omega (arith, c, r)
    ] e (count_by-cons test p ps)

counts_any : (test : Path → Bool) (ps : List Path) → 0 < count_by test ps → list_any test ps ≡ true
counts_any test [] h = absurd (omega arith)
counts_any test (p ∷ ps) h =
    elim (test p) as (λ b. count_by test (p ∷ ps) ≡ cond b 1 0 + count_by test ps → (b || list_any test ps) ≡ true) [
      | true ↦ λ c. refl
      | false ↦ λ c. counts_any test ps (omega (arith, c, h))
    ] (count_by-cons test p ps)

nobody_at : (s : State) (p : Path) → (list_any (λ q. same_path q p) (values s.home) ≡ false) ↔ ((pid : ℕ) → get s.home pid ≢ Some p)
nobody_at s p = (
  λ f pid e. apart (list_any (λ q. same_path q p) (values s.home))
      (counts_any (λ q. same_path q p) (values s.home) (counted_by (λ q. same_path q p) (entries s.home) pid p (sym (get-entries s.home pid) ∙ e) (same_path_itself p))) f,
  λ h. false_from_ne_true (list_any (λ q. same_path q p) (values s.home)) (λ t.
      let r = found_by (λ q. same_path q p) (entries s.home) (entries_sorted s.home) (any_counts (λ q. same_path q p) (values s.home) t) in
      h r.pid (get-entries s.home r.pid ∙ r.home ∙ ap Some ((same_path_is r.at p).0 r.passes))),
)

-- ---- groups

below_bound : (n m : ℕ) → (ltb n m ≡ false) ↔ (m ≤ n)
below_bound n m = (λ e. grind (arith, nat_tests), λ h. grind (arith, nat_tests))

make_tests : (a b : Bool) (q : Path) (o : Option Refusal) (d : Bool)
    → refuse a Exists (refuse (not b) (NoGroup q) (option_or o (refuse d NoSlot None))) ≡ None → (a ≡ false) × (b ≡ true) × (o ≡ None)
    × (d ≡ false)
make_tests a b q o d e =
    let one = beyond a Exists (refuse (not b) (NoGroup q) (option_or o (refuse d NoSlot None))) e in
    let two = beyond (not b) (NoGroup q) (option_or o (refuse d NoSlot None)) one in (
      passed a Exists (refuse (not b) (NoGroup q) (option_or o (refuse d NoSlot None))) e,
      not-false b (passed (not b) (NoGroup q) (option_or o (refuse d NoSlot None)) one),
      first_none o (refuse d NoSlot None) two,
      passed d NoSlot None (neither o (refuse d NoSlot None) two),
    )

pub make_is : (slots : ℕ) (s : State) (p : Path) → (refusal slots s (MakeGroup p) ≡ None)
    ↔ ((is_group s p ≡ false) × (is_group s (parent p) ≡ true) × HasRoomBelow s (parent p) × (len s.groups ≤ slots))
make_is slots s p = (
  λ e. let t = make_tests (is_group s p) (is_group s (parent p)) (parent p) (blocked_make s p) (ltb slots (len s.groups)) e in
      (t.0, t.1, (free_is s p).1 t.2, (below_bound slots (len s.groups)).0 t.3),
  λ h.
      let room = (free_is s p).0 h.2 in
      let few = (below_bound slots (len s.groups)).1 h.3 in
      λ i. refuse (h.0 i) Exists (refuse (not (h.1 i)) (NoGroup (parent p)) (option_or (room i) (refuse (few i) NoSlot None))),
)

remove_tests : (a b c d : Bool) (p : Path)
    → refuse a RootFixed (refuse (not b) (NoGroup p) (refuse c HasChildren (refuse d HasProcesses None))) ≡ None → (a ≡ false) × (b ≡ true)
    × (c ≡ false) × (d ≡ false)
remove_tests a b c d p e =
    let one = beyond a RootFixed (refuse (not b) (NoGroup p) (refuse c HasChildren (refuse d HasProcesses None))) e in
    let two = beyond (not b) (NoGroup p) (refuse c HasChildren (refuse d HasProcesses None)) one in (
      passed a RootFixed (refuse (not b) (NoGroup p) (refuse c HasChildren (refuse d HasProcesses None))) e,
      not-false b (passed (not b) (NoGroup p) (refuse c HasChildren (refuse d HasProcesses None)) one),
      passed c HasChildren (refuse d HasProcesses None) two,
      passed d HasProcesses None (beyond c HasChildren (refuse d HasProcesses None) two),
    )

pub remove_is : (slots : ℕ) (s : State) (p : Path) → (refusal slots s (RemoveGroup p) ≡ None)
    ↔ ((p ≢ []) × (is_group s p ≡ true) × ((q : Path) → is_group s q ≡ true → strictly_below q p ≡ false)
    × ((pid : ℕ) → get s.home pid ≢ Some p))
remove_is slots s p = (
  λ e.
      let t = remove_tests (is_root p) (is_group s p) (list_any (λ q. strictly_below q p) (keys s.groups)) (list_any (λ q. same_path q p) (values s.home)) p e in
      ((not_root p).0 t.0, t.1, (no_group s (λ q. strictly_below q p)).0 t.2, (nobody_at s p).0 t.3),
  λ h.
      let root = (not_root p).1 h.0 in
      let bare = (no_group s (λ q. strictly_below q p)).1 h.2 in
      let free = (nobody_at s p).1 h.3 in
      λ i. refuse (root i) RootFixed (refuse (not (h.1 i)) (NoGroup p) (refuse (bare i) HasChildren (refuse (free i) HasProcesses None))),
)

pub kill_is : (slots : ℕ) (s : State) (p : Path) → (refusal slots s (Kill p) ≡ None) ↔ ((p ≢ []) × (is_group s p ≡ true))
kill_is slots s p = (
  λ e. (
    (not_root p).0 (passed (is_root p) NoFile (refuse (not (is_group s p)) (NoGroup p) None) e),
    not-false (is_group s p)
        (passed (not (is_group s p)) (NoGroup p) None (beyond (is_root p) NoFile (refuse (not (is_group s p)) (NoGroup p) None) e)),
  ),
  λ h. let root = (not_root p).1 h.0 in λ i. refuse (root i) NoFile (refuse (not (h.1 i)) (NoGroup p) None),
)

-- on the root there is no file for the test
kept_off : (p : Path) (b : Bool) → ((is_root p && b) ≡ false) ↔ (p ≡ [] → b ≡ false)
kept_off [] b = (λ e r. e, λ h. h refl)
kept_off (x ∷ p) b = (λ e r. cc, λ h. refl)

pub set_is : (slots : ℕ) (s : State) (p : Path) (file : LimitFile) (value : Limit) → (refusal slots s (SetLimit p file value) ≡ None) ↔ ((is_group s p ≡ true) × (p ≡ [] → is_pids_max file ≡ false))
set_is slots s p file value = (
  λ e. (
    not-false (is_group s p) (passed (not (is_group s p)) (NoGroup p) None (beyond (is_root p && is_pids_max file) NoFile (refuse (not (is_group s p)) (NoGroup p) None) e)),
    (kept_off p (is_pids_max file)).0 (passed (is_root p && is_pids_max file) NoFile (refuse (not (is_group s p)) (NoGroup p) None) e),
  ),
  λ h. let off = (kept_off p (is_pids_max file)).1 h.1 in λ i. refuse (off i) NoFile (refuse (not (h.0 i)) (NoGroup p) None),
)

show_tests : (a b c : Bool) (p : Path) → refuse (not a) NotReadable (refuse (not b) (NoGroup p) (refuse c NoFile None)) ≡ None → (a ≡ true) × (b ≡ true) × (c ≡ false)
show_tests a b c p e =
    let one = beyond (not a) NotReadable (refuse (not b) (NoGroup p) (refuse c NoFile None)) e in (
      not-false a (passed (not a) NotReadable (refuse (not b) (NoGroup p) (refuse c NoFile None)) e),
      not-false b (passed (not b) (NoGroup p) (refuse c NoFile None) one),
      passed c NoFile None (beyond (not b) (NoGroup p) (refuse c NoFile None) one),
    )

pub show_is : (slots : ℕ) (s : State) (p : Path) (file : File) → (refusal slots s (Show p file) ≡ None) ↔ ((readable file ≡ true) × (is_group s p ≡ true) × (p ≡ [] → on_root file ≡ true))
show_is slots s p file = (
  λ e.
      let t = show_tests (readable file) (is_group s p) (is_root p && not (on_root file)) p e in
      (t.0, t.1, λ root. not-false (on_root file) ((kept_off p (not (on_root file))).0 t.2 root)),
  λ h.
      let off = (kept_off p (not (on_root file))).1 (λ root. ap not (h.2 root)) in
      λ i. refuse (not (h.0 i)) NotReadable (refuse (not (h.1 i)) (NoGroup p) (refuse (off i) NoFile None)),
)

-- ---- processes

pub fork_is : (slots : ℕ) (s : State) (from child : ℕ) → (refusal slots s (Fork from child) ≡ None)
    ↔ ((has_process s from ≡ true) × (has_process s child ≡ false) × IsWithinPids (after s (Fork from child)) (home_of s from))
fork_is slots s from child = (
  λ e. let t = fork_passed slots s from child e in (not-false (has_process s from) t.0, t.1, fork_within slots s from child e),
  λ h. (accepted_is slots s from child h.0 h.1).1 h.2,
)

pub exit_is : (slots : ℕ) (s : State) (pid : ℕ) → (refusal slots s (Exit pid) ≡ None) ↔ (has_process s pid ≡ true)
exit_is slots s pid = one_passes (has_process s pid) (NoProcess pid)

pub move_is : (slots : ℕ) (s : State) (p : Path) (pid : ℕ) → (refusal slots s (Move p pid) ≡ None) ↔ ((is_group s p ≡ true) × (has_process s pid ≡ true))
move_is slots s p pid = two_pass (is_group s p) (has_process s pid) (NoGroup p) (NoProcess pid)

pub locate_is : (slots : ℕ) (s : State) (pid : ℕ) → (refusal slots s (Locate pid) ≡ None) ↔ (has_process s pid ≡ true)
locate_is slots s pid = one_passes (has_process s pid) (NoProcess pid)
