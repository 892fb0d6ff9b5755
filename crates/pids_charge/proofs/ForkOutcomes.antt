-- What a fork is refused with, and what it leaves.
use Rattle.std.proofs.Common.{◌≡◌, ℕ, ◌+◌, ◌<◌, Bool, true, false, cond, not, Option, Some, None, IsSome, is_some, Result, Ok, Err, OnErr}
use Rattle.std.proofs.Common.{List, [], length, take, option_map, unwrap_or, refl, sym, ap, ◌∙◌}
use Rattle.std.proofs.lemmas.Bool.{false≢true}
use Rattle.std.specs.Ordering.{nat_cmp}
use Rattle.std.specs.List.Sorted.{IsStrictlySortedBy}
use Rattle.std.specs.Map.{keys_of, lookup}
use Rattle.std.specs.BTreeMap.{is_at, insert_entry}
use Rattle.std.specs.FinMap as fin
use Rattle.flat_model.specs.Path.{Path, at_or_below, upward}
use Rattle.flat_model.specs.State.{State}
use Rattle.flat_model.specs.Counts.{first_path, has_process, blocked_fork}
use Rattle.flat_model.specs.Command.{Refusal, Fork, NoProcess, PidInUse, OverPidsMax}
use Rattle.flat_model.specs.CommandText.{IsPid}
use Rattle.flat_model.specs.Step.{refusal, home_of, after, raise_peaks}
use Rattle.group_tree.specs.Groups.{Groups}
use Rattle.pids_charge.specs.Content.{Content}
use Rattle.pids_charge.specs.Events.{is_full_by}
use Rattle.pids_charge.specs.Lists.{Row, process_in}
use Rattle.pids_charge.specs.Peaks.{raised_by}
use Rattle.pids_charge.specs.Recount.{Recounted, IsPlaced, HasSlots, SameSlots, state_of, with_charges}
use Rattle.process_table.specs.declared.process.Process.{Process}
use Rattle.pids_charge.proofs.FlatGroups.{home-is, process-is, moved-is}
use Rattle.pids_charge.proofs.MeterContents.{added}
use Rattle.pids_charge.proofs.PeakRises.{raised_recounted, raised_state}
use Rattle.pids_charge.proofs.FullGroupWalk.{blocked-is}

pub fork_no_process : (slots : ℕ) (s : State) (from child : ℕ) → has_process s from ≡ false → refusal slots s (Fork from child) ≡ Some (NoProcess from)
fork_no_process slots s from child h = rw h refl

pub fork_in_use : (slots : ℕ) (s : State) (from child : ℕ) → has_process s from ≡ true → has_process s child ≡ true → refusal slots s (Fork from child) ≡ Some (PidInUse child)
fork_in_use slots s from child h i = rw (h, i) refl

first_there : (b : Bool) (o : Option Refusal) (r : Refusal) → cond (not b) (Some r) o ≡ None → b ≡ true
first_there true o r h = refl
first_there false o r h = absurd (false≢true (sym (ap is_some h)))

-- what is not refused has a parent
pub fork_there : (slots : ℕ) (s : State) (from child : ℕ) → refusal slots s (Fork from child) ≡ None → has_process s from ≡ true
fork_there slots s from child h = first_there (has_process s from) _ _ h

first_absent : (b d : Bool) (o : Option Refusal) (r q : Refusal) → cond (not b) (Some r) (cond d (Some q) o) ≡ None → d ≡ false
first_absent true false o r q h = refl
first_absent true true o r q h = absurd (false≢true (sym (ap is_some h)))
first_absent false d o r q h = absurd (false≢true (sym (ap is_some h)))

-- and its child is no process yet
pub fork_free : (slots : ℕ) (s : State) (from child : ℕ) → refusal slots s (Fork from child) ≡ None → has_process s child ≡ false
fork_free slots s from child h = first_absent (has_process s from) (has_process s child) _ _ _ h

-- the group of a process that the table has
pub home_at : {A : Type 0} (leaves : ℕ) (tree : Groups) (es : List (Row A)) (content : Content) (held : ℕ)
    → Recounted leaves tree es content held → (s : State) → state_of tree es ≡ s → (from : ℕ) (x : Process A)
    → lookup (is_at (nat_cmp from)) es ≡ Some x → home_of s from ≡ x.home
home_at leaves tree es content held d s v from x found = ap (λ (o : Option Path). unwrap_or o []) (home-is s tree es v d.ordered from ∙ ap (option_map (λ p. p.home)) found)

-- a fork whose parent the table has, and whose child it doesn't have, is refused by a limit at most
pub pids_ready : {A : Type 0} (tree : Groups) (es : List (Row A)) → IsStrictlySortedBy nat_cmp (keys_of es) → (s : State) → state_of tree es ≡ s → (parent child : ℕ) (x : Process A)
    → lookup (is_at (nat_cmp parent)) es ≡ Some x → is_some (lookup (is_at (nat_cmp child)) es) ≡ false → (has_process s parent ≡ true) × (has_process s child ≡ false)
pids_ready tree es ordered s v parent child x found new = (process-is s tree es v ordered parent ∙ ap is_some found, process-is s tree es v ordered child ∙ new)

-- what holds of any fork that is out of memory
pub on_err : {T E : Type 0} (P : Type 0) (r : Result T E) → P → OnErr r P
on_err P (Ok x) h = tt
on_err P (Err e) h = h

module _ {A : Type 0} (slots leaves : ℕ) (tree : Groups) (es : List (Row A)) (content : Content) (held : ℕ)
    (d : Recounted leaves tree es content held) (free : List ℕ) (h : HasSlots slots tree free)
    (prefixes : (p q : Path) → IsSome (fin.get tree p) → at_or_below p q ≡ true → IsSome (fin.get tree q)) (s : State)
    (v : state_of tree es ≡ s)
    (from : ℕ) (x : Process A) (found : lookup (is_at (nat_cmp from)) es ≡ Some x) where
  pub home : home_of s from ≡ x.home
  home = home_at leaves tree es content held d s v from x found

  pub there : has_process s from ≡ true
  there = process-is s tree es v d.ordered from ∙ ap is_some found

  pub fork_asks : (child : ℕ) → has_process s child ≡ false → (o : Option Path) → o ≡ first_path (is_full_by leaves content tree) (upward x.home)
      → refusal slots s (Fork from child) ≡ option_map OverPidsMax o
  fork_asks child new o e =
      let blocked : blocked_fork s (home_of s from) ≡ o = ap (blocked_fork s) home ∙ blocked-is slots leaves tree es content held d free h prefixes s v x.home ∙ sym e in
      rw (there, new, blocked) refl

-- ---- a process that was made

nobody : {X : Type 0} (o : Option X) → is_some o ≡ false → o ≡ None
nobody None e = refl
nobody (Some x) e = absurd (false≢true (sym e))

-- a process that the state doesn't have is not in the table
pub not_there : {A : Type 0} (s : State) (tree : Groups) (es : List (Row A)) → state_of tree es ≡ s
    → IsStrictlySortedBy nat_cmp (keys_of es) → (k : ℕ) → has_process s k ≡ false → lookup (is_at (nat_cmp k)) es ≡ None
not_there s tree es v sorted k e = nobody (lookup (is_at (nat_cmp k)) es) (sym (process-is s tree es v sorted k) ∙ e)

module _ {A : Type 0} (slots leaves : ℕ) (tree new : Groups) (es fs : List (Row A)) (content final : Content) (held held2 : ℕ)
    (d : Recounted leaves tree es content held) (free : List ℕ) (h : HasSlots slots tree free) (same : SameSlots tree new)
    (child leaf : ℕ) (x : Process A) (placed : IsPlaced leaves tree x) (absent : lookup (is_at (nat_cmp child)) es ≡ None)
    (pid : IsPid child) (rows : fs ≡ insert_entry nat_cmp es child (process_in x.home x.row leaf))
    (ordered : IsStrictlySortedBy nat_cmp (keys_of fs))
    (below : leaf < leaves) (charged : (s j : ℕ) → final s j ≡ with_charges tree x.home leaf content s j) (held_is : held2 ≡ held + length x.home) where
  come : Recounted leaves tree fs (with_charges tree x.home leaf content) held2
  come = added leaves tree es content held d child (process_in x.home x.row leaf) fs (with_charges tree x.home leaf content) held2 absent
      pid rows ordered (record { home = placed.home; row = placed.row; leaf_below = below }) (λ s j. refl) held_is

  pub made_recounted : Recounted leaves new fs final held2
  made_recounted = raised_recounted slots leaves tree new fs (with_charges tree x.home leaf content) final held2 come same charged

  pub made_state : ((p q : Path) → IsSome (fin.get tree p) → at_or_below p q ≡ true → IsSome (fin.get tree q)) → (s : State) → state_of tree es ≡ s → (parent : ℕ) → home_of s parent ≡ x.home
      → ((q : Path) → fin.get new q ≡ option_map (raised_by leaves (with_charges tree x.home leaf content) x.home q) (fin.get tree q)) → state_of new fs ≡ after s (Fork parent child)
  made_state prefixes s v parent at_home raised =
      let home = sym at_home in
      let moved = moved-is s tree es v d.ordered child (process_in x.home x.row leaf) fs (home_of s parent) rows home in
      raised_state slots leaves tree new fs (with_charges tree x.home leaf content) final held2 come same free h prefixes x.home raised
      ∙ (λ i. raise_peaks (home i) (moved i))
