-- What a well-formed state promises of its groups, processes, slots and totals.
use Rattle.std.proofs.Common.{◌≡◌, ℕ, ◌+◌, ◌<◌, Bool, true, false, not, ◌&&◌, [], Option, Some, None, refl, ltb, arith, le-ltb}
use Rattle.std.specs.Prelude.{unwrap_or}
use Rattle.std.proofs.lemmas.Bool.Decides.{nat_tests}
use Rattle.std.specs.Option.{option_or}
use Rattle.std.specs.FinMap.{get, len}
use Rattle.std.proofs.Math.Bool.{and-false}
use Rattle.flat_model.specs.Path.{Path, parent, is_root, upward}
use Rattle.flat_model.specs.State.{State}
use Rattle.flat_model.specs.Counts.{is_group, current, asks}
use Rattle.flat_model.specs.File.{Procs}
use Rattle.flat_model.specs.Command.{MakeGroup, Show, Refusal, Exists, NoGroup, Descendants, Depth, NoSlot, NoFile}
use Rattle.flat_model.specs.Refuse.{refuse}
use Rattle.flat_model.specs.Step.{refusal, home_of, limit_met, blocked_make}
use Rattle.flat_model.specs.WellFormed.{WellFormed}
use Rattle.flat_model_laws.proofs.HierarchyLimits.{counts, deepens, refused_at}
use Rattle.flat_model_laws.proofs.NearestLaws.{asks_not}

-- the home of a process is a group, and the root is where there is no such process
home_is : (slots : ℕ) (s : State) → WellFormed slots s → (pid : ℕ) (o : Option Path) → get s.home pid ≡ o → is_group s (unwrap_or o []) ≡ true
home_is slots s w pid None e = w.root
home_is slots s w pid (Some p) e = w.homes pid p e

shown : (b c : Bool) (p : Path) → b ≡ true → c ≡ false → refuse (not b) (NoGroup p) (refuse c NoFile None) ≡ None
shown true false p h k = refl
shown true true p h k = cc
shown false c p h k = cc

pub home_is_shown : (slots : ℕ) (s : State) (pid : ℕ) → WellFormed slots s → refusal slots s (Show (home_of s pid) Procs) ≡ None
home_is_shown slots s pid w = shown (is_group s (home_of s pid)) (is_root (home_of s pid) && false) (home_of s pid) (home_is slots s w pid (get s.home pid) refl) (and-false (is_root (home_of s pid)))

-- a limit refuses by itself alone
no_slot : (b c : Bool) (a : Path) → refuse b (Descendants a) (refuse c (Depth a) None) ≡ Some NoSlot → ⊥
no_slot true c a e = cc
no_slot false true a e = cc
no_slot false false a e = cc

never_blocked : (s : State) (p : Path) → blocked_make s p ≡ Some NoSlot → ⊥
never_blocked s p e = let f = refused_at (limit_met s (parent p)) (upward (parent p)) NoSlot e in no_slot (counts s f.at) (deepens s (parent p) f.at) f.at f.refuses

last_test : (a b : Bool) (q : Path) (o : Option Refusal) (d : Bool) → (o ≡ Some NoSlot → ⊥) → refuse a Exists (refuse b (NoGroup q) (option_or o (refuse d NoSlot None))) ≡ Some NoSlot → d ≡ true
last_test true b q o d n e = cc
last_test false true q o d n e = cc
last_test false false q (Some r) d n e = absurd (n e)
last_test false false q None true n e = refl
last_test false false q None false n e = cc

pub slots_are_taken : (slots : ℕ) (s : State) (p : Path) → WellFormed slots s → refusal slots s (MakeGroup p) ≡ Some NoSlot → len s.groups ≡ slots + 1
slots_are_taken slots s p w e =
    let full : ltb slots (len s.groups) ≡ true = last_test (is_group s p) (not (is_group s (parent p))) (parent p) (blocked_make s p) (ltb slots (len s.groups)) (never_blocked s p) e in
    let more : slots < len s.groups = grind (arith, nat_tests) in
    let few = w.few in omega (arith, more, few)

pub own_in_all : (slots : ℕ) (s : State) (g : Path) → WellFormed slots s → asks (λ attr. ltb attr.total attr.local) (get s.groups g) ≡ false
own_in_all slots s g w = asks_not (λ attr. ltb attr.total attr.local) (get s.groups g) (λ attr there. let l = w.totals g attr there in le-ltb attr.total attr.local l)

pub peak_holds : (slots : ℕ) (s : State) (g : Path) → WellFormed slots s → is_root g ≡ false → asks (λ attr. ltb attr.peak (current s g)) (get s.groups g) ≡ false
peak_holds slots s g w r = asks_not (λ attr. ltb attr.peak (current s g)) (get s.groups g) (λ attr there. le-ltb attr.peak (current s g) (w.peaks g attr there r))

pub root_without_peak : (slots : ℕ) (s : State) → WellFormed slots s → asks (λ attr. ltb 0 attr.peak) (get s.groups []) ≡ false
root_without_peak slots s w = asks_not (λ attr. ltb 0 attr.peak) (get s.groups []) (λ attr there. let e = w.root_peak attr there in le-ltb 0 attr.peak (omega (arith, e)))
