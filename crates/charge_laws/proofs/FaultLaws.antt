-- Which refusal a fault stands for, and what a call does of a command.
use Rattle.std.proofs.Common.{◌≡◌, ◌≢◌, ◌⊎◌, ◌↔◌, inl, inr, ℕ, ◌≤◌, Bool, true, false, cond, [], List, Option, Some, None, Result, Ok, Err, length, take, length-take, option_map, refl, sym, ap, ◌∙◌, arith}
use Rattle.flat_model.specs.Command as model
use Rattle.flat_model.specs.Command.{changes, is_counted, is_undo}
use Rattle.flat_model.specs.Machine.{Machine, outcome, recorded, tick, undone}
use Rattle.flat_model.specs.Path.{Path}
use Rattle.flat_model.specs.State.{State}
use Rattle.flat_model.specs.Step.{after, after_refusal, refusal}
use Rattle.pids_charge.specs.Answers.{Decides, Does, ForksTo, MovesTo, after_fault, names_in, refusal_along, refusal_in, refusal_of_fault}
use Rattle.pids_charge.specs.declared.fault.ChargeRefusal.{ChargeRefusal}
use Rattle.pids_charge.specs.declared.fault.ChargeRefusal.TheVariants as refused
use Rattle.pids_charge.specs.declared.fault.ChargeFault.{ChargeFault}
use Rattle.pids_charge.specs.declared.fault.ChargeFault.TheVariants as fault
use Rattle.pids_charge.specs.declared.fork.ForkOutcome.{ForkOutcome}
use Rattle.pids_charge.specs.declared.fork.ForkOutcome.TheVariants as fork
use Rattle.pids_charge.specs.declared.migrate.MoveOutcome.TheVariants as move
use Rattle.pids_charge.specs.declared.migrate.Shifted.{Shifted}

pub memory_is : (p : Path) (f : ChargeFault) → (refusal_of_fault p f ≡ None) ↔ (f ≡ fault.OutOfMemory)
memory_is p fault.Exists = (λ e. cc, λ e. cc)
memory_is p fault.NoSlot = (λ e. cc, λ e. cc)
memory_is p fault.RootFixed = (λ e. cc, λ e. cc)
memory_is p fault.HasChildren = (λ e. cc, λ e. cc)
memory_is p fault.HasProcesses = (λ e. cc, λ e. cc)
memory_is p fault.NoFile = (λ e. cc, λ e. cc)
memory_is p (fault.NoGroup n) = (λ e. cc, λ e. cc)
memory_is p (fault.Descendants n) = (λ e. cc, λ e. cc)
memory_is p (fault.Depth n) = (λ e. cc, λ e. cc)
memory_is p (fault.PidsMax n) = (λ e. cc, λ e. cc)
memory_is p (fault.NoProcess n) = (λ e. cc, λ e. cc)
memory_is p (fault.PidInUse n) = (λ e. cc, λ e. cc)
memory_is p fault.OutOfMemory = (λ e. refl, λ e. refl)

-- the refusal of the flat state, as a refusal of the charges; its number counts the names of the group that it names
abbrev refusal_back : model.Refusal → ChargeRefusal
refusal_back model.Exists = refused.Exists
refusal_back model.NoSlot = refused.NoSlot
refusal_back model.RootFixed = refused.RootFixed
refusal_back model.HasChildren = refused.HasChildren
refusal_back model.HasProcesses = refused.HasProcesses
refusal_back model.NoFile = refused.NoFile
refusal_back (model.NoGroup q) = refused.NoGroup (length q)
refusal_back (model.Descendants q) = refused.Descendants (length q)
refusal_back (model.Depth q) = refused.Depth (length q)
refusal_back (model.OverPidsMax q) = refused.PidsMax (length q)
refusal_back (model.NoProcess pid) = refused.NoProcess pid
refusal_back (model.PidInUse pid) = refused.PidInUse pid
refusal_back model.NotReadable = refused.NoFile

same_length : (n : ℕ) (p : Path) → n ≤ length p → length (take n p) ≡ n
same_length n p h = omega (arith, length-take n p, h)

back_is : (p : Path) (r : ChargeRefusal) → names_in r ≤ length p → refusal_back (refusal_along p r) ≡ r
back_is p refused.Exists h = refl
back_is p refused.NoSlot h = refl
back_is p refused.RootFixed h = refl
back_is p refused.HasChildren h = refl
back_is p refused.HasProcesses h = refl
back_is p refused.NoFile h = refl
back_is p (refused.NoGroup n) h = ap refused.NoGroup (same_length n p h)
back_is p (refused.Descendants n) h = ap refused.Descendants (same_length n p h)
back_is p (refused.Depth n) h = ap refused.Depth (same_length n p h)
back_is p (refused.PidsMax n) h = ap refused.PidsMax (same_length n p h)
back_is p (refused.NoProcess n) h = refl
back_is p (refused.PidInUse n) h = refl

pub one_refusal : (p : Path) (q r : ChargeRefusal) → names_in q ≤ length p → names_in r ≤ length p → refusal_along p q ≡ refusal_along p r → q ≡ r
one_refusal p q r h i e = sym (back_is p q h) ∙ ap refusal_back e ∙ back_is p r i

-- the fault that a refusal is
abbrev fault_back : Option ChargeRefusal → ChargeFault
fault_back None = fault.OutOfMemory
fault_back (Some refused.Exists) = fault.Exists
fault_back (Some refused.NoSlot) = fault.NoSlot
fault_back (Some refused.RootFixed) = fault.RootFixed
fault_back (Some refused.HasChildren) = fault.HasChildren
fault_back (Some refused.HasProcesses) = fault.HasProcesses
fault_back (Some refused.NoFile) = fault.NoFile
fault_back (Some (refused.NoGroup n)) = fault.NoGroup n
fault_back (Some (refused.Descendants n)) = fault.Descendants n
fault_back (Some (refused.Depth n)) = fault.Depth n
fault_back (Some (refused.PidsMax n)) = fault.PidsMax n
fault_back (Some (refused.NoProcess pid)) = fault.NoProcess pid
fault_back (Some (refused.PidInUse pid)) = fault.PidInUse pid

fault_is : (f : ChargeFault) → fault_back (refusal_in f) ≡ f
fault_is fault.Exists = refl
fault_is fault.NoSlot = refl
fault_is fault.RootFixed = refl
fault_is fault.HasChildren = refl
fault_is fault.HasProcesses = refl
fault_is fault.NoFile = refl
fault_is (fault.NoGroup n) = refl
fault_is (fault.Descendants n) = refl
fault_is (fault.Depth n) = refl
fault_is (fault.PidsMax n) = refl
fault_is (fault.NoProcess n) = refl
fault_is (fault.PidInUse n) = refl
fault_is fault.OutOfMemory = refl

pub one_fault : (f g : ChargeFault) → refusal_in f ≡ refusal_in g → f ≡ g
one_fault f g e = sym (fault_is f) ∙ ap fault_back e ∙ fault_is g

pub unchanged_is : (s : State) (p : Path) (f : ChargeFault) → ((names : ℕ) → f ≢ fault.PidsMax names) → after_fault s (refusal_of_fault p f) ≡ s
unchanged_is s p fault.Exists h = refl
unchanged_is s p fault.NoSlot h = refl
unchanged_is s p fault.RootFixed h = refl
unchanged_is s p fault.HasChildren h = refl
unchanged_is s p fault.HasProcesses h = refl
unchanged_is s p fault.NoFile h = refl
unchanged_is s p (fault.NoGroup n) h = refl
unchanged_is s p (fault.Descendants n) h = refl
unchanged_is s p (fault.Depth n) h = refl
unchanged_is s p (fault.PidsMax n) h = absurd (h n refl)
unchanged_is s p (fault.NoProcess n) h = refl
unchanged_is s p (fault.PidInUse n) h = refl
unchanged_is s p fault.OutOfMemory h = refl

pub home_stays : (s : State) (p : Path) (f : ChargeFault) → (after_fault s (refusal_of_fault p f)).home ≡ s.home
home_stays s p fault.Exists = refl
home_stays s p fault.NoSlot = refl
home_stays s p fault.RootFixed = refl
home_stays s p fault.HasChildren = refl
home_stays s p fault.HasProcesses = refl
home_stays s p fault.NoFile = refl
home_stays s p (fault.NoGroup n) = refl
home_stays s p (fault.Descendants n) = refl
home_stays s p (fault.Depth n) = refl
home_stays s p (fault.PidsMax n) = refl
home_stays s p (fault.NoProcess n) = refl
home_stays s p (fault.PidInUse n) = refl
home_stays s p fault.OutOfMemory = refl

-- ---- calls

-- the state of a step that is accepted; a command that changes nothing leaves it
changed : (b : Bool) (m : Machine) (c : model.Command) (s : State) → (b ≡ false → s ≡ m.state) → s ≡ (cond b (recorded m c s) m).state
changed true m c s h = refl
changed false m c s h = h refl

no_change : (s : State) (c : model.Command) → changes c ≡ false → is_undo c ≡ false → after s c ≡ s
no_change s (model.MakeGroup p) e u = cc
no_change s (model.RemoveGroup p) e u = cc
no_change s (model.Fork from child) e u = cc
no_change s (model.Exit pid) e u = cc
no_change s (model.Move p pid) e u = cc
no_change s (model.SetLimit p file value) e u = cc
no_change s (model.Kill g) e u = cc
no_change s (model.Show p file) e u = refl
no_change s (model.Locate pid) e u = refl
no_change s model.Undo e u = cc

pub done_is : (slots : ℕ) (m : Machine) (c : model.Command) (p : Path) (x : ℕ) (new : State) → is_undo c ≡ false
    → Does slots m.state c p (Ok x) new → new ≡ (tick slots m c).0.state
done_is slots m c p x new u d =
    let step : tick slots m c ≡ outcome m c None =
    ap (λ (b : Bool). cond b (undone m.state m.past) (outcome m c (refusal slots m.state c))) u ∙ ap (outcome m c) d.0 in
    d.1 ∙ changed (changes c) m c (after m.state c) (λ e. no_change m.state c e u) ∙ sym (ap (λ (t : Machine × model.Reply). t.0.state) step)

same_fault : (f g : ChargeFault) (r : Result ℕ ChargeFault) → r ≡ Err f → r ≡ Err g → f ≡ g
same_fault f g r a b = let both : Err f ≡ Err g = sym a ∙ b in let same : f ≡ g = cc in same

-- a call with a fault, by the refusal that it stands for
fails_by : (slots : ℕ) (s : State) (c : model.Command) (p : Path) (f : ChargeFault) (new : State) (o : Option model.Refusal) → refusal slots s c ≡ o
    → refusal_of_fault p f ≡ o → new ≡ after_fault s o → Does slots s c p {X = ℕ} (Err f) new
fails_by slots s c p f new o e n is = (e ∙ sym n, is ∙ sym (ap (after_fault s) n))

pub accepted_is : (slots : ℕ) (s : State) (c : model.Command) (p : Path) (r : Result ℕ ChargeFault) (new : State) → refusal slots s c ≡ None
    → Does slots s c p r new ↔ (((x : ℕ) × (r ≡ Ok x) × (new ≡ after s c)) ⊎ ((r ≡ Err fault.OutOfMemory) × (new ≡ s)))
accepted_is slots s c p (Ok x) new e = (λ d. inl (x, refl, d.1), λ h. elim h [ inl y ↦ (e, y.2) | inr y ↦ (let no = y.0 in cc) ])
accepted_is slots s c p (Err f) new e = (
  λ d. let n : refusal_of_fault p f ≡ None = sym d.0 ∙ e in inr (ap Err ((memory_is p f).0 n), d.1 ∙ ap (after_fault s) n),
  λ h. elim h [
    | inl y ↦ (let no = y.1 in cc)
    | inr y ↦ fails_by slots s c p f new None e ((memory_is p f).1 (same_fault f fault.OutOfMemory (Err f) refl y.0)) y.1
  ],
)

pub refused_is : (slots : ℕ) (s : State) (c : model.Command) (p : Path) (q : model.Refusal) (r : Result ℕ ChargeFault) (new : State) → refusal slots s c ≡ Some q
    → Does slots s c p r new ↔ ((f : ChargeFault) × (r ≡ Err f) × (refusal_of_fault p f ≡ Some q) × (new ≡ after_refusal s q))
refused_is slots s c p q (Ok x) new e = (λ d. (let no = d.0 in cc), λ h. (let no = h.1 in cc))
refused_is slots s c p q (Err f) new e = (
  λ d. let n : refusal_of_fault p f ≡ Some q = sym d.0 ∙ e in (f, refl, n, d.1 ∙ ap (after_fault s) n),
  λ h. fails_by slots s c p f new (Some q) e (ap (refusal_of_fault p) (same_fault f h.0 (Err f) refl h.1) ∙ h.2) h.3,
)

-- ---- a call that decides
pub decides_refused : (slots : ℕ) (s : State) (c : model.Command) (p : Path) (f : ChargeFault) (r : ChargeRefusal) (new : State) → refusal_in f ≡ Some r
    → Decides slots s c p {X = ℕ} (Err r) new ↔ Does slots s c p {X = ℕ} (Err f) new
decides_refused slots s c p f r new e =
    let same : refusal_of_fault p f ≡ Some (refusal_along p r) = ap (option_map (refusal_along p)) e in
    (λ d. (d.0 ∙ sym same, d.1 ∙ sym (ap (after_fault s) same)), λ d. (d.0 ∙ same, d.1 ∙ ap (after_fault s) same))

-- ---- a fork that is counted where a limit refuses it
pub forked_is : (slots : ℕ) (m : Machine) (from child : ℕ) (o : ForkOutcome ℕ) (new : State)
    → ForksTo slots m.state from child o new → new ≡ (tick slots m (model.Fork from child)).0.state
forked_is slots m from child (fork.Made peaks) new h = done_is slots m (model.Fork from child) [] 0 new refl (h.0, h.1)
forked_is slots m from child (fork.Counted p q) new h =
    h.1 ∙ sym (ap (λ (r : Option model.Refusal). (outcome m (model.Fork from child) r).0.state) h.0)
forked_is slots m from child (fork.Refused r) new h =
    let c = model.Fork from child in
    h.1 ∙ sym (ap (λ (o : Option model.Refusal). (outcome m c o).0.state) (h.0 []).0
    ∙ ap (λ (b : Bool). (cond b (recorded m c (after_refusal m.state (refusal_along [] r))) m).state) (h.0 []).1)

pub one_outcome : (slots : ℕ) (s : State) (from child : ℕ) (peaks : List ℕ) (p q : Path) (new other : State)
    → ForksTo {A = ℕ} slots s from child (fork.Made peaks) new → ForksTo {A = ℕ} slots s from child (fork.Counted p q) other → ⊥
one_outcome slots s from child peaks p q new other made counted =
    let both : None ≡ Some (model.OverPidsMax p) = sym made.0 ∙ counted.0 in cc

pub made_or_refused : (slots : ℕ) (s : State) (from child : ℕ) (peaks : List ℕ) (r : ChargeRefusal) (new other : State)
    → ForksTo {A = ℕ} slots s from child (fork.Made peaks) new → ForksTo {A = ℕ} slots s from child (fork.Refused r) other → ⊥
made_or_refused slots s from child peaks r new other made denied =
    let both : None ≡ Some (refusal_along [] r) = sym made.0 ∙ (denied.0 []).0 in cc

-- the count of a refusal
abbrev counts : Option model.Refusal → Bool
counts None = false
counts (Some r) = is_counted r

pub counted_or_not : (slots : ℕ) (s : State) (from child : ℕ) (p q : Path) (r : ChargeRefusal) (new other : State)
    → ForksTo {A = ℕ} slots s from child (fork.Counted p q) new → ForksTo {A = ℕ} slots s from child (fork.Refused r) other → ⊥
counted_or_not slots s from child p q r new other counted denied =
    let both : true ≡ false = ap counts (sym counted.0 ∙ (denied.0 []).0) ∙ (denied.0 []).1 in cc

-- ---- a move
pub moved_is : (slots : ℕ) (m : Machine) (pid : ℕ) (p to : Path) (left : Shifted ℕ) (new : State)
    → MovesTo slots m.state pid p (move.Moved to left) new → new ≡ (tick slots m (model.Move p pid)).0.state
moved_is slots m pid p to left new h = done_is slots m (model.Move p pid) [] 0 new refl (h.0, h.1)

pub move_refused_is : (slots : ℕ) (m : Machine) (pid : ℕ) (p : Path) (r : ChargeRefusal) (new : State)
    → MovesTo {A = ℕ} slots m.state pid p (move.Refused r) new → (new ≡ m.state) × ((tick slots m (model.Move p pid)).1 ≡ model.Refused (refusal_along p r))
move_refused_is slots m pid p r new h = (h.2, ap (λ (o : Option model.Refusal). (outcome m (model.Move p pid) o).1) h.0)

pub moved_or_refused : (slots : ℕ) (s : State) (pid : ℕ) (p to : Path) (left : Shifted ℕ) (r : ChargeRefusal) (new other : State)
    → MovesTo slots s pid p (move.Moved to left) new → MovesTo {A = ℕ} slots s pid p (move.Refused r) other → ⊥
moved_or_refused slots s pid p to left r new other moved denied =
    let both : None ≡ Some (refusal_along p r) = sym moved.0 ∙ denied.0 in cc
