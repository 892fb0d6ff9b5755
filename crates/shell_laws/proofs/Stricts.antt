-- A strict shell is a shell, unless it stops at a line.
use Rattle.std.proofs.Common.{◌≡◌, ◌≤◌, ◌++◌, ◌∷◌, [], List, ℕ, length, true, false, arith, refl, ap, Option, Some, None, Result, Ok, Err}
use Rattle.std.specs.List.{All}
use Rattle.std.proofs.lemmas.List.Elements.{All-head}
use Rattle.flat_model.specs.Replies.{is_fault}
use Rattle.flat_model.specs.Trace.{Line}
use Rattle.program_io.specs.Device.{TakesFront}
use Rattle.trace_talk.specs.declared.summary.Summary.{Summary}
use Rattle.shell_main.specs.declared.fault.ShellFault.{ShellFault}
use Rattle.shell_main.specs.declared.fault.ShellFault.TheVariants.{Read, Write, InputTooLong, OutOfMemory, NotACommand}
use Rattle.shell_main.specs.declared.options.Options.{Options}
use Rattle.shell_main.specs.Devices.{SinkState, SourceState}
use Rattle.shell_main.specs.Shelled.{Shelled, ShelledBy}

pub as_shell : (r : Result Summary ShellFault) (how : Options) (start : Option (List ℕ)) (source : SourceState) (before : Option (List ℕ)) (sink : SinkState)
    → ShelledBy how start source before sink r → (r ≡ Err NotACommand → ⊥) → Shelled how.keeps_history start source before sink r
as_shell (Ok summary) how start source before sink s n = s.0
as_shell (Err Read) how start source before sink s n = (s.0, (s.1.0, s.1.1, s.1.2))
as_shell (Err Write) how start source before sink s n = s.0
as_shell (Err InputTooLong) how start source before sink s n = (s.0, s.1, (s.2.0, s.2.1))
as_shell (Err OutOfMemory) how start source before sink s n = (s.0, s.1.0)
as_shell (Err NotACommand) how start source before sink s n = absurd (n refl)

-- what was written before a write failed
pub written_front : (before bytes rest : List ℕ) (after : Option (List ℕ)) → TakesFront (Some before) bytes rest after
    → (front : List ℕ) × (bytes ≡ front ++ rest) × (after ≡ Some (before ++ front))
written_front before bytes rest None t = absurd t
written_front before bytes rest (Some after) t = (t.0, t.1, ap (λ x. Some x) t.2)

head_or : Line → List Line → Line
head_or line [] = line
head_or line (x ∷ lines) = x

-- a line that is not a command is not before the last of two
pub first_is_no_fault : (fault last : Line) → is_fault fault ≡ true → (front end : List Line) → fault ∷ last ∷ [] ≡ front ++ end → length end ≤ 1
    → All (λ line. is_fault line ≡ false) front → ⊥
first_is_no_fault fault last f [] end e n c = let m = ap (λ (x : List Line). length x) e in omega (arith, m, n)
first_is_no_fault fault last f (x ∷ front) end e n c = let h = All-head (λ (line : Line). is_fault line ≡ false) x front c in let i = ap (head_or fault) e in cc
