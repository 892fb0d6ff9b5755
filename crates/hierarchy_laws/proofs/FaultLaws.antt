-- Each fault of the grammar has its own fault of the code, and none is out of memory.
use Rattle.std.proofs.Common.{◌≡◌, ◌≢◌, ◌↔◌, Option, Some, None, Result, Ok, Err, IsOk, refl, sym, ap, ◌∙◌}
use Rattle.flat_model.specs.Path.{Path}
use Rattle.flat_model.specs.PathText as grammar
use Rattle.group_path.specs.declared.fault.PathFault.{PathFault}
use Rattle.group_path.specs.declared.fault.PathFault.TheVariants.{NotRooted, EmptyName, BadByte, DotName, Reserved, NameTooLong, TooDeep, TooLong, OutOfMemory}
use Rattle.group_path.specs.FollowsGrammar.{FollowsGrammar, fault_of, checked}

-- the fault of the grammar for one of the code
abbrev fault_for : PathFault → Option grammar.PathFault
fault_for NotRooted = Some grammar.NotRooted
fault_for EmptyName = Some grammar.EmptyName
fault_for (BadByte at) = Some (grammar.BadByte at)
fault_for DotName = Some grammar.DotName
fault_for Reserved = Some grammar.Reserved
fault_for NameTooLong = Some grammar.NameTooLong
fault_for TooDeep = Some grammar.TooDeep
fault_for TooLong = Some grammar.TooLong
fault_for OutOfMemory = None

back : (f : grammar.PathFault) → fault_for (fault_of f) ≡ Some f
back grammar.NotRooted = refl
back grammar.EmptyName = refl
back (grammar.BadByte at) = refl
back grammar.DotName = refl
back grammar.Reserved = refl
back grammar.NameTooLong = refl
back grammar.TooDeep = refl
back grammar.TooLong = refl

-- two faults with one answer are one
one_fault : (f g : grammar.PathFault) → fault_of f ≡ fault_of g → f ≡ g
one_fault f g e = let some : Some f ≡ Some g = sym (back f) ∙ ap fault_for e ∙ back g in cc

no_memory : (f : grammar.PathFault) → fault_of f ≢ OutOfMemory
no_memory f e = let some : Some f ≡ None = sym (back f) ∙ ap fault_for e in cc

-- ---- what an answer says

found_only : (p : Path) (g : Result Path grammar.PathFault) → FollowsGrammar (Ok p) g → g ≡ Ok p
found_only p (Ok q) h = ap Ok (sym h)
found_only p (Err f) h = cc

found_there : (p : Path) (g : Result Path grammar.PathFault) → g ≡ Ok p → FollowsGrammar (Ok p) g
found_there p (Ok q) e = let same : q ≡ p = cc in sym same
found_there p (Err f) e = cc

pub found_is : (p : Path) (g : Result Path grammar.PathFault) → FollowsGrammar (Ok p) g ↔ (g ≡ Ok p)
found_is p g = (found_only p g, found_there p g)

fault_only : (f : grammar.PathFault) (g : Result Path grammar.PathFault) → FollowsGrammar (Err (fault_of f)) g → g ≡ Err f
fault_only f (Ok q) h = absurd (no_memory f h)
fault_only f (Err d) h = let same : fault_of f ≡ fault_of d = cc in ap Err (sym (one_fault f d same))

fault_there : (f : grammar.PathFault) (g : Result Path grammar.PathFault) → g ≡ Err f → FollowsGrammar (Err (fault_of f)) g
fault_there f (Ok q) e = cc
fault_there f (Err d) e = let same : d ≡ f = cc in λ i. Err (fault_of (sym same i))

pub fault_is : (f : grammar.PathFault) (g : Result Path grammar.PathFault) → FollowsGrammar (Err (fault_of f)) g ↔ (g ≡ Err f)
fault_is f g = (fault_only f g, fault_there f g)

memory_only : (g : Result Path grammar.PathFault) → FollowsGrammar (Err OutOfMemory) g → IsOk g
memory_only (Ok q) h = refl
memory_only (Err d) h = let same : OutOfMemory ≡ fault_of d = cc in absurd (no_memory d (sym same))

memory_there : (g : Result Path grammar.PathFault) → IsOk g → FollowsGrammar (Err OutOfMemory) g
memory_there (Ok q) h = refl
memory_there (Err d) h = cc

pub memory_is : (g : Result Path grammar.PathFault) → FollowsGrammar (Err OutOfMemory) g ↔ IsOk g
memory_is g = (memory_only g, memory_there g)

-- ---- what a test says

passed_only : (o : Option grammar.PathFault) → checked o ≡ Ok tt → o ≡ None
passed_only None e = refl
passed_only (Some f) e = cc

pub passed_is : (o : Option grammar.PathFault) → (checked o ≡ Ok tt) ↔ (o ≡ None)
passed_is o = (passed_only o, λ e. ap checked e)

tested_only : (f : grammar.PathFault) (o : Option grammar.PathFault) → checked o ≡ Err (fault_of f) → o ≡ Some f
tested_only f None e = cc
tested_only f (Some d) e = let same : fault_of d ≡ fault_of f = cc in ap Some (one_fault d f same)

pub tested_is : (f : grammar.PathFault) (o : Option grammar.PathFault) → (checked o ≡ Err (fault_of f)) ↔ (o ≡ Some f)
tested_is f o = (tested_only f o, λ e. ap checked e)

pub tests_take_none : (o : Option grammar.PathFault) → checked o ≢ Err OutOfMemory
tests_take_none None e = cc
tests_take_none (Some f) e = let same : fault_of f ≡ OutOfMemory = cc in no_memory f same

-- ---- what a fault that is known says

pub is_named : (f : grammar.PathFault) (r : Result Path PathFault) (g : Result Path grammar.PathFault) → g ≡ Err f → FollowsGrammar r g ↔ (r ≡ Err (fault_of f))
is_named f r (Ok p) e = cc
is_named f r (Err d) e = let same : d ≡ f = cc in (λ h. h ∙ ap (λ x. Err (fault_of x)) same, λ h. h ∙ ap (λ x. Err (fault_of x)) (sym same))
