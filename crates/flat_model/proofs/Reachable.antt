-- Each state that commands reach is well formed, and so is each that an undo can give back.
use Rattle.std.proofs.Common.{◌≡◌, ℕ, ◌+◌, ◌≤◌, Bool, true, false, cond, List, [], ◌∷◌, Option, Some, None, refl, sym, ap, subst, ◌∙◌, is_some, arith}
use Rattle.std.specs.Cmp.{nat_cmp_total}
use Rattle.std.specs.Ordering.{nat_cmp, eq_by_cmp}
use Rattle.std.specs.FinMap.{get, empty, len, get-insert, get-empty, len-insert, len-empty}
use Rattle.flat_model.specs.Path.{Path, path_cmp, parent, is_root}
use Rattle.flat_model.specs.State.{State, Attr, start, fresh}
use Rattle.flat_model.specs.Counts.{is_group}
use Rattle.flat_model.specs.Command.{Command, Refusal, is_undo, changes, is_counted}
use Rattle.flat_model.specs.Step.{refusal, after, after_refusal}
use Rattle.flat_model.specs.Machine.{Machine, new_machine, recorded, outcome, undone, tick, end_of, after_all}
use Rattle.flat_model.specs.WellFormed.{WellFormed, PastWellFormed, MachineWellFormed}
use Rattle.flat_model.proofs.PathLaws.{path_cmp-IsTotalOrder, path_cmp-IsAntisymmetric}
use Rattle.flat_model.proofs.Maps.{get-own, key_of}
use Rattle.flat_model.proofs.WellFormedSteps.{kept}
use Rattle.flat_model.proofs.Limits.{kept_refused}

-- the root is the only group at the start
pub only_root : (q : Path) (attr : Attr) → get start.groups q ≡ Some attr → (q ≡ []) × (fresh ≡ attr)
only_root q attr h =
    elim (eq_by_cmp path_cmp q []) as (λ b. eq_by_cmp path_cmp q [] ≡ b → cond b (Some fresh) (get (empty {R = path_cmp}) q) ≡ Some attr → (q ≡ []) × (fresh ≡ attr)) [
      | true ↦ λ t e. (key_of path_cmp-IsAntisymmetric q [] t, (cc))
      | false ↦ λ t e. let n = get-empty {X = Attr} path_cmp q in cc
    ] refl (sym (get-insert path_cmp-IsTotalOrder (empty {R = path_cmp}) [] fresh q) ∙ h)

pub some_attr : (o : Option Attr) → is_some o ≡ true → (attr : Attr) × (o ≡ Some attr)
some_attr None e = cc
some_attr (Some attr) e = (attr, refl)

root_is : is_group start [] ≡ true
root_is = ap is_some (get-own path_cmp-IsTotalOrder path_cmp-IsAntisymmetric (empty {R = path_cmp}) [] fresh)

first_home : (pid : ℕ) (p : Path) → get start.home pid ≡ Some p → is_group start p ≡ true
first_home pid p h =
    elim (eq_by_cmp nat_cmp pid 1) as (λ b. cond b (Some []) (get (empty {R = nat_cmp}) pid) ≡ Some p → is_group start p ≡ true) [
      | true ↦ λ e. let same : [] ≡ p = cc in subst (λ (q : Path). is_group start q ≡ true) same root_is
      | false ↦ λ e. let n = get-empty {X = Path} nat_cmp pid in cc
    ] (sym (get-insert nat_cmp_total (empty {R = nat_cmp}) 1 [] pid) ∙ h)

at_most_one : (b : Bool) (n : ℕ) → n ≡ 0 → cond b n (n + 1) ≤ 1
at_most_one true n e = omega arith
at_most_one false n e = omega arith

pub start_well_formed : (slots : ℕ) → WellFormed slots start
start_well_formed slots = record {
  root = root_is;
  parents = λ p h. let a = some_attr (get start.groups p) h in let is = (only_root p a.0 a.1).0 in ap (λ (q : Path). is_group start (parent q)) is ∙ root_is;
  homes = first_home;
  few =
      let e = len-insert path_cmp-IsTotalOrder (empty {R = path_cmp}) [] fresh in
      let one = at_most_one (is_some (get (empty {X = Attr} {R = path_cmp}) [])) (len (empty {X = Attr} {R = path_cmp})) (len-empty path_cmp Attr) in
      omega (arith, e, one);
  totals = λ p attr h. subst (λ (a : Attr). a.local ≤ a.total) (only_root p attr h).1 (omega arith);
  peaks = λ p attr h r. let f : true ≡ false = sym (ap is_root (only_root p attr h).0) ∙ r in cc;
  root_peak = λ attr h. ap (λ (a : Attr). a.peak) (sym (only_root [] attr h).1);
}

module _ (slots : ℕ) where
  recorded_well : (m : Machine) (c : Command) (s : State) → MachineWellFormed slots m → WellFormed slots s → MachineWellFormed slots (recorded m c s)
  recorded_well m c s w h = (h, (w.0, w.1))

  outcome_well : (m : Machine) (c : Command) (o : Option Refusal) → refusal slots m.state c ≡ o → MachineWellFormed slots m → MachineWellFormed slots (outcome m c o).0
  outcome_well m c None e w = elim (changes c) as (λ b. MachineWellFormed slots (cond b (recorded m c (after m.state c)) m)) [ true ↦ recorded_well m c _ w (kept slots m.state c w.0 e) | false ↦ w ]
  outcome_well m c (Some r) e w = elim (is_counted r) as (λ b. MachineWellFormed slots (cond b (recorded m c (after_refusal m.state r)) m))
      [ true ↦ recorded_well m c _ w (kept_refused slots m.state c r w.0 e) | false ↦ w ]

  undone_well : (s : State) (past : List (Command × State)) → WellFormed slots s → PastWellFormed slots past → MachineWellFormed slots (undone s past).0
  undone_well s [] w p = (w, p)
  undone_well s (e ∷ past) w p = p

  -- a step keeps the machine well formed
  pub tick_well : (m : Machine) (c : Command) → MachineWellFormed slots m → MachineWellFormed slots (tick slots m c).0
  tick_well m c w =
      elim (is_undo c) as (λ b. MachineWellFormed slots (cond b (undone m.state m.past) (outcome m c (refusal slots m.state c))).0) [
        | true ↦ undone_well m.state m.past w.0 w.1
        | false ↦ outcome_well m c (refusal slots m.state c) refl w
      ]

  pub run_well : (m : Machine) (cs : List Command) → MachineWellFormed slots m → MachineWellFormed slots (end_of slots m cs)
  run_well m [] w = w
  run_well m (c ∷ cs) w = run_well (tick slots m c).0 cs (tick_well m c w)

  pub reached_well : (cs : List Command) → MachineWellFormed slots (after_all slots cs)
  reached_well cs = run_well new_machine cs (start_well_formed slots, tt)
