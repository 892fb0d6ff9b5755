-- What a shell leaves where it ends, by what stood before.
use Rattle.std.proofs.Common.{◌≡◌, ◌∙◌, ◌⊎◌, inl, inr, ℕ, suc, ◌≤◌, ◌<◌, Bool, true, false, List, [], ◌∷◌, ◌++◌, length, ◌==◌, append_assoc}
use Rattle.std.proofs.Common.{append-nil, refl, sym, ap, subst, arith, take, zero-add, Option, Some, None, Result, Ok, Err}
use Rattle.std.specs.Io.KnownBytes.{Consumes, IsAtEnd}
use Rattle.std.specs.Io.KnownBytes as known
use Rattle.std.specs.Result.{IsErrAnd}
use Rattle.std.proofs.lemmas.Bool.{eqb-true}
use Rattle.flat_model.specs.Replies.{command_count}
use Rattle.flat_model.specs.Trace.{read_line, read_trace, trace_max}
use Rattle.program_io.specs.Device.{IsInput, TakesFront}
use Rattle.shell_main.specs.declared.fault.ShellFault.{ShellFault}
use Rattle.shell_main.specs.declared.fault.ShellFault.TheVariants.{Read, Write, InputTooLong, OutOfMemory, NotACommand}
use Rattle.shell_main.specs.Shelled.{BeginsWith, IsBarred, IsBroken, IsStopped, NothingOwed, ShelledBy}
use Rattle.trace_talk.specs.Points.{Point, answers_on, number_max, start_point, summary_of}
use Rattle.shell_main.specs.declared.options.Options.{Options}
use Rattle.shell_main.specs.Devices.{SinkState, SourceState}
use Rattle.shell_main.specs.Forgetful.{after_by, answers_by, output_of, refused_of}
use Rattle.shell_main.specs.Talks.{Answered, Finishes, IsCutOff, IsOut, IsStruck, Serves, StandsBeforeRead, StopsShell}
use Rattle.shell_main.specs.WholeLines.{HasCommandsOnly, IsClean, IsCleanBeforeLast}
use Rattle.shell_main.proofs.ForgetfulCuts.{commands_by}
use Rattle.shell_main.proofs.LineCuts.{with_feed, without_feed}
use Rattle.shell_main.proofs.ReadStates.{both_written, came, read_cut, written_both, written_more}
use Rattle.shell_main.proofs.WholeLineTexts.{answers_both, answers_more, before_last_both, clean_both, clean_more, ends_both, last_any, point_both, point_more, short_both}

-- ---- the source

-- what was read and what is left are what the source had
begins : (start left : Option (List ℕ)) (front more : List ℕ) → Consumes start left (front ++ more) → BeginsWith start front
begins None left front more c = tt
begins (Some xs) None front more c = absurd c
begins (Some xs) (Some ys) front more c = (more ++ ys, c ∙ append_assoc front more ys)

all_read : (start left : Option (List ℕ)) (bytes : List ℕ) → Consumes start left bytes → IsAtEnd left → IsInput start bytes
all_read None left bytes c e = tt
all_read (Some xs) None bytes c e = absurd c
all_read (Some xs) (Some ys) bytes c e = c ∙ ap (λ y. bytes ++ y) e ∙ append-nil bytes

all_begins : (start : Option (List ℕ)) (bytes : List ℕ) → IsInput start bytes → BeginsWith start bytes
all_begins None bytes i = tt
all_begins (Some xs) bytes i = ([], i ∙ sym (append-nil bytes))

kept_left : (start left later : Option (List ℕ)) (front : List ℕ) → Consumes start left front → known.Keeps left later → Consumes start later front
kept_left None left later front c k = tt
kept_left (Some xs) None later front c k = absurd c
kept_left (Some xs) (Some ys) None front c k = absurd k
kept_left (Some xs) (Some ys) (Some zs) front c k = c ∙ ap (λ y. front ++ y) (sym k)

-- the numbers of a point are those of the lines before it
commands_at : (history : Bool) (lines : List ℕ) (now : Point) → now ≡ after_by history start_point (read_trace lines) → now.commands ≡ command_count (read_trace lines)
commands_at history lines now p = ap (λ q. q.commands) p ∙ commands_by history start_point (read_trace lines) ∙ zero-add (command_count (read_trace lines))

refused_at : (history : Bool) (lines : List ℕ) (now : Point) → now ≡ after_by history start_point (read_trace lines) → now.refused ≡ refused_of history lines
refused_at history lines now p = ap (λ q. q.refused) p

-- ---- before a read

pub nothing_owed : {how : Options} {start left before : Option (List ℕ)} {sink : SinkState} {now : Point} {lines line : List ℕ}
    → StandsBeforeRead how start left before sink now lines line [] → NothingOwed how.keeps_history start left before sink lines line
nothing_owed {start} {left} {lines} {line} s = record {
  whole = s.whole;
  short = s.short;
  unended = s.unended.no_feed;
  read = subst (λ x. Consumes start left (lines ++ x)) (append-nil line) s.read;
  written = s.written;
  good = s.good;
  is_out = s.is_out;
}

-- the read failed
pub read_ended : {how : Options} {start left before : Option (List ℕ)} {sink : SinkState} {now : Point} {lines line : List ℕ} (source : SourceState)
    → StandsBeforeRead how start left before sink now lines line [] → known.Keeps left source.left → source.failed ≡ true → ShelledBy how start source before sink (Err Read)
read_ended {start} {left} {lines} {line} source s k r =
    let n = nothing_owed s in (
      r,
      (
        lines,
        line,
        record {
          whole = n.whole;
          short = n.short;
          unended = n.unended;
          read = kept_left start left source.left (lines ++ line) n.read k;
          written = n.written;
          good = n.good;
          is_out = n.is_out;
        },
        s.clean,
      ),
    )

-- ---- after whole lines

-- some more lines were answered, and their output is out
record StoppedAt (how : Options) (start : Option (List ℕ)) (source : SourceState) (before : Option (List ℕ)) (sink : SinkState) (new : Point) (lines more : List ℕ) : Type 0 where
  stopped : IsStopped how.keeps_history start source before sink lines
  clean : IsClean how.is_strict lines
  point : new ≡ after_by how.keeps_history start_point (read_trace lines)
  read : Consumes start source.left (lines ++ more)

stopped_at : {how : Options} {start before : Option (List ℕ)} {old sink : SinkState} {now new : Point} {lines line pending more out : List ℕ} (source : SourceState)
    → StandsBeforeRead how start source.left before old now lines line pending → (a : Answered how now (line ++ pending) more out new) → IsOut old.taken out sink → source.failed ≡ false
    → StoppedAt how start source before sink new (lines ++ a.text) more
stopped_at {how} {start} {before} {old} {sink} {now} {new} {lines} {line} {pending} {more} source s a o r =
    let read = read_cut start source.left lines (line ++ pending) a.text more s.read a.is_front in
    record {
      stopped = record {
        whole = ends_both lines a.text s.whole a.whole;
        short = short_both lines a.text s.whole s.short a.short;
        is_front = begins start source.left (lines ++ a.text) more read;
        written = written_both how.keeps_history lines a.text [] now before old.taken sink.taken s.whole s.point s.written (subst (λ x. TakesFront old.taken x [] sink.taken) a.output o.written);
        good_reads = r;
        good_writes = o.good;
        is_out = o.is_out;
      };
      clean = clean_both how.is_strict lines a.text s.whole s.clean a.clean;
      point = point_both how.keeps_history start_point now new lines a.text s.whole s.point a.point;
      read = read;
    }

-- a write or a flush failed
cut_off : {how : Options} {start before : Option (List ℕ)} {old sink : SinkState} {now : Point} {lines line pending : List ℕ} (source : SourceState)
    → StandsBeforeRead how start source.left before old now lines line pending → IsCutOff how now (line ++ pending) old.taken sink → source.failed ≡ false
    → (broken : IsBroken how.keeps_history start source before sink) × IsCleanBeforeLast how.is_strict broken.lines
cut_off {how} {start} {before} {old} {sink} {now} {lines} {line} {pending} source s c r = (
  record {
    lines = lines ++ c.text;
    whole = inl (ends_both lines c.text s.whole c.whole);
    short = short_both lines c.text s.whole s.short c.short;
    is_front = begins start source.left (lines ++ c.text) c.more (read_cut start source.left lines (line ++ pending) c.text c.more s.read c.is_front);
    rest = c.rest;
    written = written_both how.keeps_history lines c.text c.rest now before old.taken sink.taken s.whole s.point s.written c.written;
    good_reads = r;
    bad_write = c.bad;
  },
  before_last_both how.is_strict lines c.text s.whole s.clean c.clean,
)

-- a strict shell answered commands only
strictly : (how : Options) (lines : List ℕ) → how.is_strict ≡ true → IsClean how.is_strict lines → HasCommandsOnly lines
strictly how lines e c = subst (λ b. IsClean b lines) e c

-- a strict shell stopped after a line with its line feed
struck : {how : Options} {start before : Option (List ℕ)} {old sink : SinkState} {now : Point} {lines line pending out : List ℕ} (source : SourceState)
    → StandsBeforeRead how start source.left before old now lines line pending → IsStruck how now (line ++ pending) out → IsOut old.taken out sink → source.failed ≡ false
    → IsBarred how.keeps_history start source before sink
struck {how} {start} {before} {old} {sink} {now} {lines} {line} {pending} {out} source s h o r =
    let a = h.answered in
    let front = lines ++ a.text in
    let whole = ends_both lines a.text s.whole a.whole in
    let text = front ++ (h.line ++ 0x0A ∷ []) in
    let one = with_feed front h.line whole h.unended.no_feed in
    let read = read_cut start source.left lines (line ++ pending) a.text (h.line ++ 0x0A ∷ h.more) s.read a.is_front in
    let joined : front ++ (h.line ++ 0x0A ∷ h.more) ≡ text ++ h.more = ap (λ x. front ++ x) (sym (append_assoc h.line (0x0A ∷ []) h.more)) ∙ sym (append_assoc front (h.line ++ 0x0A ∷ []) h.more) in
    record {
      lines = front;
      line = h.line;
      text = text;
      whole = whole;
      unended = h.unended.no_feed;
      is_next = inl (refl, begins start source.left text h.more (subst (Consumes start source.left) joined read));
      clean = strictly how front h.is_strict (clean_both how.is_strict lines a.text s.whole s.clean a.clean);
      fault = h.fault;
      short = one.short (short_both lines a.text s.whole s.short a.short) h.unended.fits;
      written =
          let all : output_of how.keeps_history text ≡ output_of how.keeps_history lines ++ out =
          answers_more how.keeps_history start_point h.now front h.line text one
          (point_both how.keeps_history start_point now h.now lines a.text s.whole s.point a.point)
          ∙ ap (λ x. x ++ answers_on h.now (read_line h.line ∷ [])) (answers_both how.keeps_history start_point now lines a.text s.whole s.point)
          ∙ append_assoc (output_of how.keeps_history lines) (answers_by how.keeps_history now (read_trace a.text)) (answers_on h.now (read_line h.line ∷ []))
          ∙ ap (λ x. output_of how.keeps_history lines ++ x) (ap (λ x. x ++ answers_on h.now (read_line h.line ∷ [])) (sym a.output) ∙ sym h.output) in
          subst (λ x. TakesFront before x [] sink.taken) (sym all) (both_written before old.taken sink.taken (output_of how.keeps_history lines) out [] s.written o.written);
      good_reads = r;
      good_writes = o.good;
      is_out = o.is_out;
    }

-- some of what came was answered; a fault ended that, or a write did
pub stop_ended : {how : Options} {start before : Option (List ℕ)} {old : SinkState} {now : Point} {lines line pending : List ℕ} (source : SourceState) (fault : ShellFault) (sink : SinkState)
    → StandsBeforeRead how start source.left before old now lines line pending → StopsShell how now (line ++ pending) old.taken sink fault → source.failed ≡ false
    → ShelledBy how start source before sink (Err fault)
stop_ended source Read sink s h r = absurd h.1.0
stop_ended source Write sink s h r = cut_off source s h r
stop_ended {lines} source OutOfMemory sink s h r =
    let a = h.1.0.2 in
    let t = stopped_at source s a h.1.1 r in
    (lines ++ a.text, (t.stopped, t.clean))
stop_ended {how} {start} {lines} source InputTooLong sink s h r =
    let line2 = h.1.0.0 in
    let more = h.1.0.1 in
    let new = h.1.0.2 in
    let a = h.1.0.3.0 in
    let front = lines ++ a.text in
    let t = stopped_at source s a h.1.1 r in
    let why : (trace_max < length line2) ⊎ (number_max ≤ command_count (read_trace front)) = elim h.1.0.3.2 [
      | inl e ↦ inl e
      | inr e ↦ inr (subst (λ n. number_max ≤ n) (commands_at how.keeps_history front new t.point) e)
    ] in (
      front,
      line2,
      (
        t.stopped,
        record { is_next = begins start source.left (front ++ line2) more (subst (Consumes start source.left) (sym (append_assoc front line2 more)) t.read); unended = h.1.0.3.1; too_long = why },
        t.clean,
      ),
    )
stop_ended source NotACommand sink s h r = (h.1.0.is_strict, struck source s h.1.0 h.1.1 r)

-- ---- at the end of the source

input_of : {how : Options} {start left before : Option (List ℕ)} {sink : SinkState} {now : Point} {lines line : List ℕ}
    → StandsBeforeRead how start left before sink now lines line [] → IsAtEnd left → IsInput start (lines ++ line)
input_of {start} {left} {lines} {line} s e = all_read start left (lines ++ line) (subst (λ x. Consumes start left (lines ++ x)) (append-nil line) s.read) e

-- nothing was written after whole lines
last_stopped : {how : Options} {start before : Option (List ℕ)} {old sink : SinkState} {now : Point} {lines line : List ℕ} (source : SourceState)
    → StandsBeforeRead how start source.left before old now lines line [] → IsOut old.taken [] sink → source.failed ≡ false
    → IsStopped how.keeps_history start source before sink lines
last_stopped {how} {start} {before} {old} {sink} {lines} {line} source s o r = record {
  whole = s.whole;
  short = s.short;
  is_front = begins start source.left lines (line ++ []) s.read;
  written = subst (λ x. TakesFront before x [] sink.taken) (append-nil (output_of how.keeps_history lines)) (both_written before old.taken sink.taken (output_of how.keeps_history lines) [] [] s.written o.written);
  good_reads = r;
  good_writes = o.good;
  is_out = o.is_out;
}

pub last_ended : {how : Options} {start before : Option (List ℕ)} {old : SinkState} {now : Point} {lines line : List ℕ} (source : SourceState) (fault : ShellFault) (sink : SinkState) (new : Point)
    → StandsBeforeRead how start source.left before old now lines line [] → IsAtEnd source.left → (length line == 0) ≡ false → source.failed ≡ false
    → Finishes how now (read_line line) old.taken sink (Err fault) new → ShelledBy how start source before sink (Err fault)
last_ended source Read sink new s e some r w = absurd w
last_ended {how} {start} {before} {old} {now} {lines} {line} source Write sink new s e some r w =
    let i = input_of s e in
    let one = without_feed lines line s.whole s.unended.no_feed some in (
      record {
        lines = lines ++ line;
        whole = inr i;
        short = one.short s.short s.unended.fits;
        is_front = all_begins start (lines ++ line) i;
        rest = w.1.0;
        written = written_more how.keeps_history lines line (lines ++ line) w.1.0 now before old.taken sink.taken one s.point s.written w.1.1;
        good_reads = r;
        bad_write = w.0;
      },
      last_any how.is_strict lines line (lines ++ line) one s.clean,
    )
last_ended {lines} source OutOfMemory sink new s e some r w = (lines, (last_stopped source s w r, s.clean))
last_ended {how} {start} {now} {lines} {line} source InputTooLong sink new s e some r w =
    let i = input_of s e in (
      lines,
      line,
      (
        last_stopped source s w.1 r,
        record { is_next = all_begins start (lines ++ line) i; unended = s.unended.no_feed; too_long = inr (subst (λ n. number_max ≤ n) (commands_at how.keeps_history lines now s.point) w.0) },
        s.clean,
      ),
    )
last_ended {how} {before} {old} {now} {lines} {line} source NotACommand sink new s e some r w =
    let i = input_of s e in
    let one = without_feed lines line s.whole s.unended.no_feed some in (
      w.0,
      record {
        lines = lines;
        line = line;
        text = lines ++ line;
        whole = s.whole;
        unended = s.unended.no_feed;
        is_next = inr (refl, i);
        clean = strictly how lines w.0 s.clean;
        fault = w.1;
        short = one.short s.short s.unended.fits;
        written = written_more how.keeps_history lines line (lines ++ line) [] now before old.taken sink.taken one s.point s.written w.2.written;
        good_reads = r;
        good_writes = w.2.good;
        is_out = w.2.is_out;
      },
    )

pub last_served : {how : Options} {start before : Option (List ℕ)} {old : SinkState} {now : Point} {lines line : List ℕ} (source : SourceState) (sink : SinkState) (new : Point) (u : Unit {0})
    → StandsBeforeRead how start source.left before old now lines line [] → IsAtEnd source.left → (length line == 0) ≡ false → source.failed ≡ false
    → Finishes how now (read_line line) old.taken sink (Ok u) new → ShelledBy how start source before sink (Ok (summary_of new))
last_served {how} {before} {old} {now} {lines} {line} source sink new u s e some r w =
    let text = lines ++ line in
    let one = without_feed lines line s.whole s.unended.no_feed some in
    let point = point_more how.keeps_history start_point now new lines line text one s.point w.0 in (
      record {
        trace = text;
        is_input = input_of s e;
        short = one.short s.short s.unended.fits;
        written = written_more how.keeps_history lines line text [] now before old.taken sink.taken one s.point s.written w.1.written;
        commands = commands_at how.keeps_history text new point;
        refused = refused_at how.keeps_history text new point;
        good_reads = r;
        good_writes = w.1.good;
        is_out = w.1.is_out;
      },
      clean_more how.is_strict lines line text one s.clean w.2,
    )

none_left : (line : List ℕ) → (length line == 0) ≡ true → line ≡ []
none_left [] e = refl
none_left (x ∷ line) e = let n : suc (length line) ≡ 0 = eqb-true (suc (length line)) 0 e in absurd (omega (arith, n))

pub served : {how : Options} {start before : Option (List ℕ)} {sink : SinkState} {now : Point} {lines line : List ℕ} (source : SourceState)
    → StandsBeforeRead how start source.left before sink now lines line [] → IsAtEnd source.left → (length line == 0) ≡ true → source.failed ≡ false
    → ShelledBy how start source before sink (Ok (summary_of now))
served {how} {start} {now} {lines} {line} source s e none r = (
  record {
    trace = lines;
    is_input = subst (IsInput start) (ap (λ x. lines ++ x) (none_left line none) ∙ append-nil lines) (input_of s e);
    short = s.short;
    written = s.written;
    commands = commands_at how.keeps_history lines now s.point;
    refused = refused_at how.keeps_history lines now s.point;
    good_reads = r;
    good_writes = s.good;
    is_out = s.is_out;
  },
  s.clean,
)

-- ---- what one read leaves

-- nothing came: the source is at its end
pub at_end : {how : Options} {start left before : Option (List ℕ)} {sink : SinkState} {now : Point} {lines line : List ℕ} (later : Option (List ℕ)) (buf : List ℕ) (count : ℕ)
    → StandsBeforeRead how start left before sink now lines line [] → Consumes left later (take count buf) × (count ≡ 0 → 0 < length buf → IsAtEnd later) → count ≡ 0 → 0 < length buf
    → StandsBeforeRead how start later before sink now lines line [] × IsAtEnd later
at_end {how} {start} {before} {sink} {now} {lines} {line} later buf count s c none room =
    let P : ℕ → Type 0 = λ n. StandsBeforeRead how start later before sink now lines line (take n buf) in
    (subst P none (came later (take count buf) s c.0), c.1 none room)

-- the fault is handed on
pub handed_on : (r : Result Bool ShellFault) (fault : ShellFault) (how : Options) (start : Option (List ℕ)) (source : SourceState) (before : Option (List ℕ)) (sink : SinkState) (now : Point) (line : List ℕ)
    → IsErrAnd r (λ e. e ≡ fault) → ShelledBy how start source before sink (Err fault) → Serves how start source before sink r now line
handed_on (Ok b) fault how start source before sink now line e s = absurd e
handed_on (Err f) fault how start source before sink now line e s =
    let P : ShellFault → Type 0 = λ v. ShelledBy how start source before sink (Err v) in
    subst P (sym e) s
