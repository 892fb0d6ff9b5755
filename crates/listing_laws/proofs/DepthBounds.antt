-- Where commands make groups at paths of 32 names at most, no group's path has more.
use Rattle.std.proofs.Common.{◌≡◌, ℕ, ◌≤◌, Bool, true, false, cond, not, ◌&&◌, List, [], ◌∷◌, length, Option, Some, None, inl, inr, refl, ap, sym, ◌∙◌, subst, is_some, arith}
use Rattle.std.specs.Prelude.{option_map}
use Rattle.std.specs.List.{Contains}
use Rattle.std.specs.FinMap.{keys, get, insert, remove, get-insert, get-remove}
use Rattle.flat_model.specs.Path.{Path, same_path, is_root}
use Rattle.flat_model.specs.State.{State, Attr, start, fresh}
use Rattle.flat_model.specs.Counts.{is_group}
use Rattle.flat_model.specs.File.{is_pids_max}
use Rattle.flat_model.specs.Refuse.{refuse}
use Rattle.flat_model.specs.Command.{Command, MakeGroup, RemoveGroup, Fork, Exit, Move, SetLimit, Kill, Show, Locate, Undo, Refusal, Exists}
use Rattle.flat_model.specs.Command.{NoGroup, Descendants, Depth, NoSlot, RootFixed, HasChildren, HasProcesses, NoProcess, PidInUse}
use Rattle.flat_model.specs.Command.{OverPidsMax, NoFile, NotReadable, is_undo, changes, is_counted}
use Rattle.flat_model.specs.Step.{refusal, after, after_refusal, at_each, with_limit, attr_of, raise_peak, count_up, home_of}
use Rattle.flat_model.specs.Machine.{Machine, new_machine, recorded, outcome, undone, tick, end_of, after_all}
use Rattle.flat_model.proofs.PathLaws.{path_cmp-IsTotalOrder, path_cmp-IsAntisymmetric, same_path_is}
use Rattle.flat_model.proofs.Maps.{get-each}
use Rattle.flat_model.specs.WellFormed.{WellFormed}
use Rattle.flat_model.proofs.Reachable.{only_root, some_attr, run_well, reached_well}
use Rattle.undo_journal.specs.Beginning.{forgotten}
use Rattle.line_engine.specs.Listings.{all_groups}
use Rattle.listing_laws.proofs.Members.{Among, contains_among}
use Rattle.listing_laws.proofs.InOrder.{groups_are_keys}

-- no group's path has more than 32 names
abbrev pub IsShallow : State → Type 0
IsShallow s = (p : Path) → is_group s p ≡ true → length p ≤ 32

abbrev pub PastShallow : List (Command × State) → Type 0
PastShallow [] = Unit {0}
PastShallow (e ∷ past) = IsShallow e.1 × PastShallow past

abbrev pub MachineShallow : Machine → Type 0
MachineShallow m = IsShallow m.state × PastShallow m.past

-- a group that the command makes is not too deep
abbrev pub MakesShallow : Command → Type 0
MakesShallow c = (p : Path) → c ≡ MakeGroup p → length p ≤ 32

-- ---- one command

there_by : (a b : Bool) (r t : Refusal) → refuse a r (refuse (not b) t None) ≡ None → b ≡ true
there_by true b r t e = cc
there_by false true r t e = refl
there_by false false r t e = cc

some-map : (f : Attr → Attr) (o : Option Attr) → is_some (option_map f o) ≡ true → is_some o ≡ true
some-map f None h = h
some-map f (Some x) h = refl

module _ (s : State) (shallow : IsShallow s) where
  each_shallow : (f : Path → Attr → Attr) → IsShallow (at_each f s)
  each_shallow f q h = shallow q (some-map (f q) (get s.groups q) (ap is_some (sym (get-each path_cmp-IsTotalOrder path_cmp-IsAntisymmetric f s.groups q)) ∙ h))

  insert_shallow : (p : Path) (x : Attr) → length p ≤ 32 → (q : Path) → is_some (get (insert s.groups p x) q) ≡ true → length q ≤ 32
  insert_shallow p x l q h =
      elim (same_path q p) as (λ b. same_path q p ≡ b → is_some (cond b (Some x) (get s.groups q)) ≡ true → length q ≤ 32) [
        | true ↦ λ t _. subst (λ (r : Path). length r ≤ 32) (sym ((same_path_is q p).0 t)) l
        | false ↦ λ _ k. shallow q k
      ] refl (ap is_some (sym (get-insert path_cmp-IsTotalOrder s.groups p x q)) ∙ h)

  remove_shallow : (p q : Path) → is_some (get (remove s.groups p) q) ≡ true → length q ≤ 32
  remove_shallow p q h =
      elim (same_path q p) as (λ b. is_some (cond b None (get s.groups q)) ≡ true → length q ≤ 32) [
        | true ↦ λ k. cc
        | false ↦ λ k. shallow q k
      ] (ap is_some (sym (get-remove path_cmp-IsTotalOrder s.groups p q)) ∙ h)

after_shallow : (slots : ℕ) (s : State) (c : Command) → IsShallow s → MakesShallow c → refusal slots s c ≡ None → IsShallow (after s c)
after_shallow slots s (MakeGroup p) h m e = insert_shallow s h p fresh (m p refl)
after_shallow slots s (RemoveGroup p) h m e = remove_shallow s h p
after_shallow slots s (Fork from child) h m e = let come : State = record s { home = insert s.home child (home_of s from) } in each_shallow come h (raise_peak come (home_of s from))
after_shallow slots s (Exit pid) h m e = h
after_shallow slots s (Move p pid) h m e = let come : State = record s { home = insert s.home pid p } in each_shallow come h (raise_peak come p)
after_shallow slots s (SetLimit p file value) h m e = insert_shallow s h p (with_limit file value (attr_of s p)) (h p (there_by (is_root p && is_pids_max file) (is_group s p) NoFile (NoGroup p) e))
after_shallow slots s (Kill g) h m e = h
after_shallow slots s (Show p file) h m e = h
after_shallow slots s (Locate pid) h m e = h
after_shallow slots s Undo h m e = h

refused_shallow : (s : State) (r : Refusal) → IsShallow s → IsShallow (after_refusal s r)
refused_shallow s (OverPidsMax a) h = each_shallow s h (count_up a)
refused_shallow s Exists h = h
refused_shallow s (NoGroup p) h = h
refused_shallow s (Descendants p) h = h
refused_shallow s (Depth p) h = h
refused_shallow s NoSlot h = h
refused_shallow s RootFixed h = h
refused_shallow s HasChildren h = h
refused_shallow s HasProcesses h = h
refused_shallow s (NoProcess p) h = h
refused_shallow s (PidInUse p) h = h
refused_shallow s NoFile h = h
refused_shallow s NotReadable h = h

start_shallow : IsShallow start
start_shallow p h =
    let a = some_attr (get start.groups p) h in
    subst (λ (q : Path). length q ≤ 32) (sym (only_root p a.0 a.1).0) (omega arith)

-- ---- and commands one after another

module _ (slots : ℕ) where
  outcome_shallow : (m : Machine) (c : Command) (o : Option Refusal) → refusal slots m.state c ≡ o → MakesShallow c → MachineShallow m → MachineShallow (outcome m c o).0
  outcome_shallow m c None e k h = elim (changes c) as (λ b. MachineShallow (cond b (recorded m c (after m.state c)) m)) [ true ↦ (after_shallow slots m.state c h.0 k e, (h.0, h.1)) | false ↦ h ]
  outcome_shallow m c (Some r) e k h = elim (is_counted r) as (λ b. MachineShallow (cond b (recorded m c (after_refusal m.state r)) m))
      [ true ↦ (refused_shallow m.state r h.0, (h.0, h.1)) | false ↦ h ]

  undone_shallow : (s : State) (past : List (Command × State)) → IsShallow s → PastShallow past → MachineShallow (undone s past).0
  undone_shallow s [] h k = (h, k)
  undone_shallow s (e ∷ past) h k = k

  tick_shallow : (m : Machine) (c : Command) → MakesShallow c → MachineShallow m → MachineShallow (tick slots m c).0
  tick_shallow m c k h =
      elim (is_undo c) as (λ b. MachineShallow (cond b (undone m.state m.past) (outcome m c (refusal slots m.state c))).0) [
        | true ↦ undone_shallow m.state m.past h.0 h.1
        | false ↦ outcome_shallow m c (refusal slots m.state c) refl k h
      ]

  run_shallow : (m : Machine) (cs : List Command) → ((p : Path) → Among cs (MakeGroup p) → length p ≤ 32) → MachineShallow m → MachineShallow (end_of slots m cs)
  run_shallow m [] k h = h
  run_shallow m (c ∷ cs) k h = run_shallow (tick slots m c).0 cs (λ p a. k p (inr a)) (tick_shallow m c (λ p e. k p (inl e)) h)

  pub reached_shallow : (cs : List Command) → ((p : Path) → Contains cs (MakeGroup p) → length p ≤ 32) → IsShallow (after_all slots cs).state
  reached_shallow cs k = (run_shallow new_machine cs (λ p a. k p (contains_among cs (MakeGroup p) a)) (start_shallow, tt)).0

  pub reached_keys : (cs : List Command) → ((p : Path) → Contains cs (MakeGroup p) → length p ≤ 32) → all_groups (after_all slots cs).state ≡ keys (after_all slots cs).state.groups
  reached_keys cs k = groups_are_keys (after_all slots cs).state slots (reached_well slots cs).0 (reached_shallow cs k)

  -- after forgetting, too

  pub forgotten_well : (m : Machine) (cs : List Command) → WellFormed slots m.state → WellFormed slots (end_of slots (forgotten m) cs).state
  forgotten_well m cs w = (run_well slots (forgotten m) cs (w, tt)).0

  pub forgotten_shallow : (m : Machine) (cs : List Command) → IsShallow m.state → ((p : Path) → Contains cs (MakeGroup p) → length p ≤ 32)
      → IsShallow (end_of slots (forgotten m) cs).state
  forgotten_shallow m cs h k = (run_shallow (forgotten m) cs (λ p a. k p (contains_among cs (MakeGroup p) a)) (h, tt)).0
