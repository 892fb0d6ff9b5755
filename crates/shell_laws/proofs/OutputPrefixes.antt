-- What a shell wrote is a prefix of what a replay writes.
use Rattle.std.proofs.Common.{◌≡◌, ◌∙◌, ◌⊎◌, inl, inr, ℕ, Bool, true, List, [], ◌++◌, append_assoc, append-nil, sym, ap, Option, Some, None, Result, Ok, Err}
use Rattle.std.specs.Io.KnownBytes.{Consumes}
use Rattle.flat_model.specs.Trace.{read_trace}
use Rattle.trace_talk.specs.declared.summary.Summary.{Summary}
use Rattle.program_io.specs.Device.{TakesFront}
use Rattle.shell_main.specs.declared.fault.ShellFault.{ShellFault}
use Rattle.shell_main.specs.declared.fault.ShellFault.TheVariants.{Read, Write, InputTooLong, OutOfMemory, NotACommand}
use Rattle.shell_main.specs.Devices.{SinkState, SourceState}
use Rattle.shell_main.specs.Shelled.{Shelled}
use Rattle.trace_talk.specs.Points.{start_point}
use Rattle.shell_main.specs.Forgetful.{after_by, answers_by, output_of}
use Rattle.shell_main.specs.WholeLines.{ends_line}
use Rattle.shell_main.proofs.LineCuts.{trace_cut}
use Rattle.shell_main.proofs.ForgetfulCuts.{answers_by_cut}

pub output_cut : (history : Bool) (lines more : List ℕ) → ends_line lines ≡ true
    → output_of history (lines ++ more) ≡ output_of history lines
    ++ answers_by history (after_by history start_point (read_trace lines)) (read_trace more)
output_cut history lines more e = ap (answers_by history start_point) (trace_cut lines more e) ∙ answers_by_cut history start_point (read_trace lines) (read_trace more)

-- after is before with a prefix of these bytes
pub record HasPrefix (before bytes : List ℕ) (after : Option (List ℕ)) : Type 0 where
  pub front : List ℕ
  pub more : List ℕ
  pub whole : front ++ more ≡ bytes
  pub is : after ≡ Some (before ++ front)

prefix_of : (before bytes rest all more : List ℕ) (after : Option (List ℕ)) → TakesFront (Some before) bytes rest after → all ≡ bytes ++ more → HasPrefix before all after
prefix_of before bytes rest all more None t e = absurd t
prefix_of before bytes rest all more (Some xs) t e = record {
  front = t.0;
  more = rest ++ more;
  whole = sym (append_assoc t.0 rest more) ∙ ap (λ x. x ++ more) (sym t.1) ∙ sym e;
  is = ap (λ x. Some x) t.2;
}

lines_first : (history : Bool) (left before lines rest more : List ℕ) (after : Option (List ℕ)) → ends_line lines ≡ true
    → left ≡ lines ++ more → TakesFront (Some before) (output_of history lines) rest after → HasPrefix before (output_of history left) after
lines_first history left before lines rest more after e b t =
    prefix_of before (output_of history lines) rest (output_of history left)
    (answers_by history (after_by history start_point (read_trace lines)) (read_trace more)) after t (ap (output_of history) b
    ∙ output_cut history lines more e)

all_first : (history : Bool) (left before lines rest : List ℕ) (after : Option (List ℕ)) → left ≡ lines
    → TakesFront (Some before) (output_of history lines) rest after → HasPrefix before (output_of history left) after
all_first history left before lines rest after b t =
    prefix_of before (output_of history lines) rest (output_of history left) [] after t (ap (output_of history) b
    ∙ sym (append-nil (output_of history lines)))

by_either : (history : Bool) (left before lines rest more : List ℕ) (after : Option (List ℕ)) → (ends_line lines ≡ true) ⊎ (left ≡ lines)
    → left ≡ lines ++ more → TakesFront (Some before) (output_of history lines) rest after → HasPrefix before (output_of history left) after
by_either history left before lines rest more after (inl e) b t = lines_first history left before lines rest more after e b t
by_either history left before lines rest more after (inr a) b t = all_first history left before lines rest after a t

-- what is left of known bytes of which these were read
unread_of : (start front : List ℕ) (left : Option (List ℕ)) → Consumes (Some start) left front → (unread : List ℕ) × (start ≡ front ++ unread)
unread_of start front None c = absurd c
unread_of start front (Some left) c = (left, c)

pub written_prefix : (r : Result Summary ShellFault) (history : Bool) (start before : List ℕ) (source : SourceState) (sink : SinkState)
    → Shelled history (Some start) source (Some before) sink r → HasPrefix before (output_of history start) sink.taken
written_prefix (Ok summary) history start before source sink s = all_first history start before s.trace [] sink.taken s.is_input s.written
written_prefix (Err Read) history start before source sink s =
    let n = s.1.2 in
    let unread = unread_of start (s.1.0 ++ s.1.1) source.left n.read in
    lines_first history start before s.1.0 [] (s.1.1 ++ unread.0) sink.taken n.whole (unread.1 ∙ append_assoc s.1.0 s.1.1 unread.0) n.written
written_prefix (Err Write) history start before source sink s = by_either history start before s.lines s.rest s.is_front.0 sink.taken s.whole s.is_front.1 s.written
written_prefix (Err InputTooLong) history start before source sink s = lines_first history start before s.0 [] s.2.0.is_front.0 sink.taken s.2.0.whole s.2.0.is_front.1 s.2.0.written
written_prefix (Err OutOfMemory) history start before source sink s = lines_first history start before s.0 [] s.1.is_front.0 sink.taken s.1.whole s.1.is_front.1 s.1.written
written_prefix (Err NotACommand) history start before source sink s = absurd s
