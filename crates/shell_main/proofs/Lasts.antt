-- The last line, which has no line feed: its output is written, or a write fails.
use Rattle.std.proofs.Common.{◌≡◌, ◌∙◌, ℕ, List, [], ◌∷◌, ◌++◌, refl, ap, subst, Option, Some, None, Result, Ok, Err}
use Rattle.flat_model.specs.Trace.{Line}
use Rattle.program_io.specs.declared.device.DeviceFault.{DeviceFault}
use Rattle.program_io.specs.Device.{TakesFront, WholeWrite}
use Rattle.trace_talk.specs.Points.{Point, answers_on}
use Rattle.shell_main.specs.declared.fault.ShellFault.{ShellFault}
use Rattle.shell_main.specs.declared.fault.ShellFault.TheVariants.{Read, Write, InputTooLong, OutOfMemory, NotACommand}
use Rattle.shell_main.specs.declared.options.Options.{Options}
use Rattle.shell_main.specs.Devices.{SinkState}
use Rattle.shell_main.specs.Talks.{Finishes, IsOut, AnswersShellLine}

-- exactly this output is out
is_out : {out said : List ℕ} (before : Option (List ℕ)) (sink : SinkState) (u : Unit {0}) → out ≡ said
    → WholeWrite before out sink.taken sink.failed sink.flushed (Ok u) → IsOut before said sink
is_out before sink u e w = record { written = subst (λ x. TakesFront before x [] sink.taken) e w.2; good = w.0; is_out = w.1 }

pub finished : (r : Result (Unit {0}) ShellFault) (how : Options) (old new : Point) (line : Line) (out : List ℕ) (before : Option (List ℕ)) (sink : SinkState) (u : Unit {0})
    → AnswersShellLine how old line [] out r new → WholeWrite before out sink.taken sink.failed sink.flushed (Ok u) → Finishes how old line before sink r new
finished (Ok v) how old new line out before sink u s w = (s.0, is_out before sink u s.1 w, s.2)
finished (Err NotACommand) how old new line out before sink u s w = (s.0, s.1, is_out before sink u s.2 w)
finished (Err InputTooLong) how old new line out before sink u s w = (s.0, is_out before sink u s.1 w)
finished (Err OutOfMemory) how old new line out before sink u s w = is_out before sink u s w
finished (Err Read) how old new line out before sink u s w = absurd s
finished (Err Write) how old new line out before sink u s w = absurd s

front_nil : (front rest : List ℕ) → [] ≡ front ++ rest → front ≡ []
front_nil [] rest e = refl
front_nil (x ∷ front) rest e = cc

-- a prefix of nothing is one of all
none_taken : (all rest : List ℕ) (before after : Option (List ℕ)) → TakesFront before [] rest after → TakesFront before all all after
none_taken all rest None after t = tt
none_taken all rest (Some xs) None t = absurd t
none_taken all rest (Some xs) (Some ys) t = ([], refl, t.2 ∙ ap (λ x. xs ++ x) (front_nil t.0 rest t.1))

pub unfinished : (r : Result (Unit {0}) ShellFault) (how : Options) (old new : Point) (line : Line) (out : List ℕ) (before : Option (List ℕ)) (sink : SinkState) (e : DeviceFault)
    → AnswersShellLine how old line [] out r new → WholeWrite before out sink.taken sink.failed sink.flushed (Err e) → Finishes how old line before sink (Err Write) new
unfinished (Ok v) how old new line out before sink e s w = (w.0, (w.1.0, subst (λ x. TakesFront before x w.1.0 sink.taken) s.1 w.1.1))
unfinished (Err NotACommand) how old new line out before sink e s w = (w.0, (w.1.0, subst (λ x. TakesFront before x w.1.0 sink.taken) s.2 w.1.1))
unfinished (Err InputTooLong) how old new line out before sink e s w =
    let all = answers_on old (line ∷ []) in (w.0, (all, none_taken all w.1.0 before sink.taken (subst (λ x. TakesFront before x w.1.0 sink.taken) s.1 w.1.1)))
unfinished (Err OutOfMemory) how old new line out before sink e s w =
    let all = answers_on old (line ∷ []) in (w.0, (all, none_taken all w.1.0 before sink.taken (subst (λ x. TakesFront before x w.1.0 sink.taken) s w.1.1)))
unfinished (Err Read) how old new line out before sink e s w = absurd s
unfinished (Err Write) how old new line out before sink e s w = absurd s
