-- A record that a step left can be taken back.
use Rattle.std.proofs.Common.{◌≡◌, ℕ, ◌-◌, ◌<◌, ◌≤◌, Bool, true, false, cond, not, ◌&&◌, ◌||◌, List, [], ◌∷◌, length, Option, Some, None, refl, sym, ap, subst, ◌∙◌, is_some, arith}
use Rattle.std.specs.declared.cmp.Ordering.{Ordering}
use Rattle.std.specs.Prelude.{option_map, unwrap_or, count_by}
use Rattle.std.specs.List.{list_any}
use Rattle.std.specs.Cmp.{IsTotalOrder, nat_cmp_total, eq_by_cmp_equiv}
use Rattle.std.specs.Ordering.{eq_by_cmp}
use Rattle.std.specs.FinMap.{get, len, keys, values, insert, remove, nat_cmp-IsAntisymmetric, get-insert, get-remove, len-remove, contains_key-keys}
use Rattle.std.proofs.lemmas.Bool.{false_from_ne_true, not-false}
use Rattle.std.proofs.Math.Bool.{or-true}
use Rattle.flat_model.specs.Path.{Path, path_cmp, strictly_below, same_path, is_root, parent, at_or_below}
use Rattle.flat_model.specs.State.{State, Attr, Limit, fresh}
use Rattle.flat_model.specs.Counts.{is_group, has_process, current}
use Rattle.flat_model.specs.Command as model
use Rattle.flat_model.specs.File.{LimitFile, is_pids_max}
use Rattle.flat_model.specs.Inverse.{Inverse, back, inverse, inverse_of_refusal}
use Rattle.flat_model.specs.Refuse.{refuse}
use Rattle.flat_model.specs.Step.{refusal, after, after_refusal, with_limit, limit_at, attr_of, home_of, count_up, counts_for, raise_peak, raise_peaks, peaks_upward}
use Rattle.flat_model.specs.WellFormed.{WellFormed}
use Rattle.flat_model.proofs.PathLaws.{path_cmp-IsTotalOrder, path_cmp-IsAntisymmetric, strictly_below_is, same_path_is, same_path_itself, at_or_below_itself, root_is_empty}
use Rattle.flat_model.proofs.Maps.{get-own, get-each}
use Rattle.flat_model.proofs.WellFormedSteps.{below_parent}
use Rattle.flat_model.proofs.GroupCounts.{nobody_without_group, groups_above}
use Rattle.flat_model.proofs.Sums.{count_by-cons}
use Rattle.flat_model.proofs.Limits.{fork_refused}
use Rattle.flat_model.proofs.Peaks.{length-peaks_upward}
use Rattle.flat_model.proofs.RefusalTests.{passed, beyond}
use Rattle.flat_model.proofs.Options.{not_some_is_none, is_some-option_map}
use Rattle.pids_charge.specs.Events.{HasEvents}
use Rattle.undo_journal.specs.Answer.{record_of, record_by, state_by}
use Rattle.undo_journal.specs.History.{IsRecordedStep, IsReady}
use Rattle.undo_journal.proofs.KillUndo.{killed_ready}

-- what an optional record needs
abbrev ReadyBy : ℕ → State → Option Inverse → Type 0
ReadyBy slots s None = Unit {0}
ReadyBy slots s (Some i) = IsReady slots s i

-- ---- tests over lists that no element passes

no_key : {K : Type 0} {R : K → K → Ordering} → IsTotalOrder R → (P : K → Bool) (ks : List K) → ((q : K) → list_any (eq_by_cmp R q) ks ≡ true → P q ≡ false) → list_any P ks ≡ false
no_key o P [] h = refl
no_key {R = R} o P (k ∷ ks) h =
    (λ i. h k (ap (λ b. b || list_any (eq_by_cmp R k) ks) ((eq_by_cmp_equiv o).refl k)) i || list_any P ks)
    ∙ no_key {R = R} o P ks (λ q e. h q (ap (λ b. eq_by_cmp R q k || b) e ∙ or-true (eq_by_cmp R q k)))

none_counted : {X : Type 0} (P Q : X → Bool) → ((x : X) → Q x ≡ true → P x ≡ true) → (xs : List X) → count_by P xs ≡ 0 → list_any Q xs ≡ false
none_counted P Q h [] e = refl
none_counted P Q h (x ∷ xs) e =
    let c = count_by-cons P x xs in
    elim (Q x) as (λ b. Q x ≡ b → (b || list_any Q xs) ≡ false) [
      | true ↦ λ t. let one : ◌≡◌ {A = ℕ} (cond (P x) 1 0) 1 = ap (λ b. cond b 1 0) (h x t) in absurd (omega (arith, c, e, one))
      | false ↦ λ t. none_counted P Q h xs (omega (arith, c, e))
    ] refl

-- ---- a group that was made

module _ (slots : ℕ) (t : State) (w : WellFormed slots t) (p : Path) (gone : is_group t p ≡ false) where
  beside_root : is_root p ≡ false
  beside_root = false_from_ne_true (is_root p) (λ e. let f : true ≡ false = sym w.root ∙ ap (is_group t) (sym (root_is_empty p e)) ∙ gone in cc)

  none_under : (q : Path) → at_or_below q p ≡ true → is_group t q ≡ false
  none_under q h = false_from_ne_true (is_group t q) (λ g. let f : true ≡ false = sym (groups_above slots t q p w g h) ∙ gone in cc)

  abbrev made : State
  made = after t (model.MakeGroup p)

  made_there : is_group made p ≡ true
  made_there = ap is_some (get-own path_cmp-IsTotalOrder path_cmp-IsAntisymmetric t.groups p fresh)

  made_leaf : (q : Path) → is_group made q ≡ true → strictly_below q p ≡ false
  made_leaf q g = false_from_ne_true (strictly_below q p) (λ h.
      let two = (strictly_below_is q p).0 h in
      let f : true ≡ false =
      sym g ∙ ap is_some (get-insert path_cmp-IsTotalOrder t.groups p fresh q)
      ∙ ap (λ b. is_some (cond b (Some fresh) (get t.groups q))) two.1
      ∙ none_under q two.0 in cc)

  no_children : list_any (λ q. strictly_below q p) (keys made.groups) ≡ false
  no_children = no_key {R = path_cmp} path_cmp-IsTotalOrder (λ q. strictly_below q p) (keys made.groups) (λ q e. made_leaf q (contains_key-keys made.groups q ∙ e))

  nobody : current t p ≡ 0
  nobody = nobody_without_group slots t p w gone

  no_processes : list_any (λ q. same_path q p) (values t.home) ≡ false
  no_processes = none_counted (λ q. at_or_below q p) (λ q. same_path q p) (λ q e. ap (λ x. at_or_below x p) ((same_path_is q p).0 e) ∙ at_or_below_itself p) (values t.home) nobody

  pub made_removable : refusal slots made (model.RemoveGroup p) ≡ None
  made_removable = λ i. refuse (beside_root i) model.RootFixed
      (refuse (not (made_there i)) (model.NoGroup p)
      (refuse (no_children i) model.HasChildren (refuse (no_processes i) model.HasProcesses None)))

-- ---- a group that was removed
parent_apart : (p : Path) → is_root p ≡ false → same_path (parent p) p ≡ false
parent_apart p h = (eq_by_cmp_equiv path_cmp-IsTotalOrder).symm (parent p) p ∙ ((strictly_below_is p (parent p)).0 (below_parent p h)).1

module _ (slots : ℕ) (t : State) (w : WellFormed slots t) (p : Path) (not_root : is_root p ≡ false) (there : is_group t p ≡ true) where
  removed_gone : is_group (after t (model.RemoveGroup p)) p ≡ false
  removed_gone = ap is_some (get-remove path_cmp-IsTotalOrder t.groups p p) ∙ ap (λ b. is_some (cond b None (get t.groups p))) ((eq_by_cmp_equiv path_cmp-IsTotalOrder).refl p)

  removed_under : is_group (after t (model.RemoveGroup p)) (parent p) ≡ true
  removed_under =
      ap is_some (get-remove path_cmp-IsTotalOrder t.groups p (parent p))
      ∙ ap (λ b. is_some (cond b None (get t.groups (parent p)))) (parent_apart p not_root)
      ∙ w.parents p there

  removed_room : len (remove t.groups p) ≤ slots
  removed_room =
      let e = len-remove path_cmp-IsTotalOrder t.groups p ∙ ap (λ b. cond b (len t.groups - 1) (len t.groups)) there in
      let few = w.few in omega (arith, e, few)

-- ---- a process
exited_gone : (t : State) (pid : ℕ) → has_process (after t (model.Exit pid)) pid ≡ false
exited_gone t pid = ap is_some (get-remove nat_cmp_total t.home pid pid) ∙ ap (λ b. is_some (cond b None (get t.home pid))) ((eq_by_cmp_equiv nat_cmp_total).refl pid)

home_group : (slots : ℕ) (t : State) → WellFormed slots t → (pid : ℕ) → has_process t pid ≡ true → is_group t (home_of t pid) ≡ true
home_group slots t w pid h = by (get t.home pid) refl h
  where
    by : (o : Option Path) → get t.home pid ≡ o → is_some o ≡ true → is_group t (unwrap_or o []) ≡ true
    by None e h = cc
    by (Some p) e h = w.homes pid p e

exitable : (slots : ℕ) (s : State) (pid : ℕ) → has_process s pid ≡ true → refusal slots s (model.Exit pid) ≡ None
exitable slots s pid h = λ i. refuse (not (h i)) (model.NoProcess pid) None

movable : (slots : ℕ) (s : State) (p : Path) (pid : ℕ) → is_group s p ≡ true → has_process s pid ≡ true → refusal slots s (model.Move p pid) ≡ None
movable slots s p pid g h = λ i. refuse (not (g i)) (model.NoGroup p) (refuse (not (h i)) (model.NoProcess pid) None)

limitable : (slots : ℕ) (s : State) (p : Path) (file : LimitFile) (value : Limit) → (is_root p && is_pids_max file) ≡ false → is_group s p ≡ true → refusal slots s (model.SetLimit p file value) ≡ None
limitable slots s p file value n g = λ i. refuse (n i) model.NoFile (refuse (not (g i)) (model.NoGroup p) None)

own_process : (t : State) (pid : ℕ) (p : Path) → is_some (get (insert t.home pid p) pid) ≡ true
own_process t pid p = ap is_some (get-own nat_cmp_total nat_cmp-IsAntisymmetric t.home pid p)

group_after : (t : State) (pid : ℕ) (p q : Path) → is_group (raise_peaks p (record t { home = insert t.home pid p })) q ≡ is_group t q
group_after t pid p q =
    let f = raise_peak (record t { home = insert t.home pid p }) p in
    ap is_some (get-each path_cmp-IsTotalOrder path_cmp-IsAntisymmetric f t.groups q) ∙ is_some-option_map (f q) (get t.groups q)

-- and the peaks that its record keeps are one for each name of its group
as_many_peaks : (t : State) (pid : ℕ) (p : Path) → length (peaks_upward t p) ≡ length (home_of (raise_peaks p (record t { home = insert t.home pid p })) pid)
as_many_peaks t pid p = length-peaks_upward t p ∙ sym (ap (λ (o : Option Path). length (unwrap_or o [])) (get-own nat_cmp_total nat_cmp-IsAntisymmetric t.home pid p))

-- ---- each accepted command leaves a record that is ready
accepted_ready : (slots : ℕ) (t : State) → WellFormed slots t → (c : model.Command) → refusal slots t c ≡ None → ReadyBy slots (after t c) (inverse t c)
accepted_ready slots t w (model.MakeGroup p) none = made_removable slots t w p (passed _ _ _ none)
accepted_ready slots t w (model.RemoveGroup p) none =
    let not_root = passed _ _ _ none in
    let there = not-false _ (passed _ _ _ (beyond _ _ _ none)) in
    (not_some_is_none _ (removed_gone slots t w p not_root there), removed_under slots t w p not_root there, removed_room slots t w p not_root there)
accepted_ready slots t w (model.Fork from child) none = (
  exitable slots (after t (model.Fork from child)) child (own_process t child (home_of t from)),
  as_many_peaks t child (home_of t from),
)
accepted_ready slots t w (model.Exit pid) none = (not_some_is_none _ (exited_gone t pid), home_group slots t w pid (not-false _ (passed _ _ _ none)))
accepted_ready slots t w (model.Move p pid) none = (
  movable slots (after t (model.Move p pid)) (home_of t pid) pid (group_after t pid p (home_of t pid) ∙ home_group slots t w pid (not-false _ (passed _ _ _ (beyond _ _ _ none)))) (own_process t pid p),
  as_many_peaks t pid p,
)
accepted_ready slots t w (model.SetLimit p file value) none =
    limitable slots (after t (model.SetLimit p file value)) p file (limit_at file (attr_of t p)) (passed _ _ _ none)
    (ap is_some (get-own path_cmp-IsTotalOrder path_cmp-IsAntisymmetric t.groups p (with_limit file value (attr_of t p))))
accepted_ready slots t w (model.Kill g) none = killed_ready slots t w g
accepted_ready slots t w (model.Show p file) none = tt
accepted_ready slots t w (model.Locate pid) none = tt
accepted_ready slots t w model.Undo none = tt

-- ---- and so does a counted fork
counted_some : (a q : Path) (o : Option Attr) → is_some (option_map (count_up a q) o) ≡ is_some o
counted_some a q None = refl
counted_some a q (Some x) = refl

own_counted : (a : Path) (o : Option Attr) (attr : Attr) → option_map (count_up a a) o ≡ Some attr → 0 < attr.local
own_counted a None attr e = cc
own_counted a (Some x) attr e =
    let one : ◌≡◌ {A = ℕ} (cond (same_path a a) 1 0) 1 = ap (λ b. cond b 1 0) (same_path_itself a) in
    subst (λ (y : Attr). 0 < y.local) (let same : count_up a a x ≡ attr = cc in same) (omega (arith, one))

above_counted : (a q : Path) (o : Option Attr) (attr : Attr) → counts_for a q ≡ true → option_map (count_up a q) o ≡ Some attr → 0 < attr.total
above_counted a q None attr up e = cc
above_counted a q (Some x) attr up e =
    let one : ◌≡◌ {A = ℕ} (cond (counts_for a q) 1 0) 1 = ap (λ b. cond b 1 0) up in
    subst (λ (y : Attr). 0 < y.total) (let same : count_up a q x ≡ attr = cc in same) (omega (arith, one))

fork_counted : (t : State) (a : Path) → is_group t a ≡ true → HasEvents (after_refusal t (model.OverPidsMax a)) a
fork_counted t a g =
    let each = get-each path_cmp-IsTotalOrder path_cmp-IsAntisymmetric (count_up a) t.groups in
    record {
      there = ap is_some (each a) ∙ counted_some a a (get t.groups a) ∙ g;
      local = λ attr e. own_counted a (get t.groups a) attr (sym (each a) ∙ e);
      total = λ q attr e up. above_counted a q (get t.groups q) attr up (sym (each q) ∙ e);
    }

refused_ready : (slots : ℕ) (t : State) (c : model.Command) (r : model.Refusal) → refusal slots t c ≡ Some r → ReadyBy slots (after_refusal t r) (inverse_of_refusal r)
refused_ready slots t c (model.OverPidsMax a) e = fork_counted t a (ap is_some (fork_refused slots t c a e).3.there)
refused_ready slots t c model.Exists e = tt
refused_ready slots t c (model.NoGroup q) e = tt
refused_ready slots t c (model.Descendants q) e = tt
refused_ready slots t c (model.Depth q) e = tt
refused_ready slots t c model.NoSlot e = tt
refused_ready slots t c model.RootFixed e = tt
refused_ready slots t c model.HasChildren e = tt
refused_ready slots t c model.HasProcesses e = tt
refused_ready slots t c (model.NoProcess n) e = tt
refused_ready slots t c (model.PidInUse n) e = tt
refused_ready slots t c model.NoFile e = tt
refused_ready slots t c model.NotReadable e = tt

ready_by : (slots : ℕ) (t : State) → WellFormed slots t → (c : model.Command) (o : Option model.Refusal) → refusal slots t c ≡ o → ReadyBy slots (state_by t c o) (record_by t c o)
ready_by slots t w c None e = accepted_ready slots t w c e
ready_by slots t w c (Some r) e = refused_ready slots t c r e

pub step_ready : (slots : ℕ) (s : State) (c : model.Command) (i : Inverse) → WellFormed slots (back i s) → IsRecordedStep slots s c i → IsReady slots s i
step_ready slots s c i w h =
    subst (λ (o : Option Inverse). ReadyBy slots s o) h.record_is
    (subst (λ (t : State). ReadyBy slots t (record_of slots (back i s) c)) h.state_is (ready_by slots (back i s) w c (refusal slots (back i s) c) refl))
