-- The output for the lines of one read is written, or a write fails.
use Rattle.std.proofs.Common.{◌≡◌, ◌∙◌, ℕ, List, [], ◌∷◌, ◌++◌, append_assoc, sym, ap, subst, Option, Result, Ok, Err, MatchResult}
use Rattle.std.specs.Bool.{⊤}
use Rattle.flat_model.specs.Trace.{read_line, read_trace}
use Rattle.program_io.specs.declared.device.DeviceFault.{DeviceFault}
use Rattle.program_io.specs.Device.{TakesFront, WholeWrite}
use Rattle.trace_talk.specs.Points.{Point, answers_on}
use Rattle.shell_main.specs.declared.fault.ShellFault.{ShellFault}
use Rattle.shell_main.specs.declared.fault.ShellFault.TheVariants.{Read, Write, InputTooLong, OutOfMemory, NotACommand}
use Rattle.shell_main.specs.declared.options.Options.{Options}
use Rattle.shell_main.specs.Devices.{SinkState}
use Rattle.shell_main.specs.Forgetful.{answers_by}
use Rattle.shell_main.specs.Talks.{Answered, GoesOn, Halts, IsCutOff, IsUnended, StopsShell}
use Rattle.shell_main.proofs.LineCuts.{ends_more, with_feed}
use Rattle.shell_main.proofs.WholeLineTexts.{answers_more, before_last, last_any}

-- the output is out, and a shell goes on
pub sent : {how : Options} {old new : Point} {bytes line rest out : List ℕ} (before : Option (List ℕ)) (sink : SinkState) (u : Unit {0})
    → Answered how old bytes (line ++ rest) out new → IsUnended line → WholeWrite before out sink.taken sink.failed sink.flushed (Ok u) → GoesOn how old bytes before sink new line rest
sent {out} before sink u a l w = record {
  out = out;
  answered = a;
  unended = l;
  is_out = record { written = w.2; good = w.0; is_out = w.1 };
}

-- the output is out, and a shell stops
pub stops : (fault : ShellFault) (how : Options) (old : Point) (bytes out : List ℕ) (before : Option (List ℕ)) (sink : SinkState) (u : Unit {0})
    → Halts how old bytes out fault → WholeWrite before out sink.taken sink.failed sink.flushed (Ok u) → StopsShell how old bytes before sink fault
stops Read how old bytes out before sink u h w = absurd h
stops Write how old bytes out before sink u h w = absurd h
stops InputTooLong how old bytes out before sink u h w = (out, (h, record { written = w.2; good = w.0; is_out = w.1 }))
stops OutOfMemory how old bytes out before sink u h w = (out, (h, record { written = w.2; good = w.0; is_out = w.1 }))
stops NotACommand how old bytes out before sink u h w = (out, (h, record { written = w.2; good = w.0; is_out = w.1 }))

-- a write failed after lines that are answered
unsent : {how : Options} {old new : Point} {bytes more out : List ℕ} (before : Option (List ℕ)) (sink : SinkState) (e : DeviceFault)
    → Answered how old bytes more out new → WholeWrite before out sink.taken sink.failed sink.flushed (Err e) → IsCutOff how old bytes before sink
unsent {how} {more} before sink e a w = record {
  text = a.text;
  more = more;
  is_front = a.is_front;
  whole = a.whole;
  short = a.short;
  clean = before_last how.is_strict a.text a.clean;
  rest = w.1.0;
  written = subst (λ x. TakesFront before x w.1.0 sink.taken) a.output w.1.1;
  bad = w.0;
}

unsent_halt : (fault : ShellFault) (how : Options) (old : Point) (bytes out : List ℕ) (before : Option (List ℕ)) (sink : SinkState) (e : DeviceFault)
    → Halts how old bytes out fault → WholeWrite before out sink.taken sink.failed sink.flushed (Err e) → IsCutOff how old bytes before sink
unsent_halt Read how old bytes out before sink e h w = absurd h
unsent_halt Write how old bytes out before sink e h w = absurd h
unsent_halt InputTooLong how old bytes out before sink e h w = unsent before sink e h.3.0 w
unsent_halt OutOfMemory how old bytes out before sink e h w = unsent before sink e h.2 w
unsent_halt NotACommand how old bytes out before sink e h w =
    let a = h.answered in
    let text = a.text ++ (h.line ++ 0x0A ∷ []) in
    let one = with_feed a.text h.line a.whole h.unended.no_feed in
    record {
      text = text;
      more = h.more;
      is_front = a.is_front ∙ ap (λ x. a.text ++ x) (sym (append_assoc h.line (0x0A ∷ []) h.more)) ∙ sym (append_assoc a.text (h.line ++ 0x0A ∷ []) h.more);
      whole = ends_more a.text h.line;
      short = one.short a.short h.unended.fits;
      clean = last_any how.is_strict a.text h.line text one a.clean;
      rest = w.1.0;
      written =
          let all : out ≡ answers_by how.keeps_history old (read_trace text) =
          h.output ∙ ap (λ x. x ++ answers_on h.now (read_line h.line ∷ [])) a.output
          ∙ sym (answers_more how.keeps_history old h.now a.text h.line text one a.point) in
          subst (λ x. TakesFront before x w.1.0 sink.taken) all w.1.1;
      bad = w.0;
    }

-- whatever was answered
pub cut_short : {T : Type 0} (r : Result T ShellFault) (rest : T → List ℕ) (how : Options) (old new : Point) (bytes line out : List ℕ)
    (before : Option (List ℕ)) (sink : SinkState) (e : DeviceFault)
    → MatchResult r (λ x. Answered how old bytes (line ++ rest x) out new) (λ f. ⊤) → MatchResult r (λ x. ⊤) (Halts how old bytes out)
    → WholeWrite before out sink.taken sink.failed sink.flushed (Err e) → IsCutOff how old bytes before sink
cut_short (Ok x) rest how old new bytes line out before sink e a h w = unsent before sink e a w
cut_short (Err f) rest how old new bytes line out before sink e a h w = unsent_halt f how old bytes out before sink e h w
