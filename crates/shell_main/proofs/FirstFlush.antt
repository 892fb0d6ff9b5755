-- What a shell leaves of a sink that is flushed before the first read.
use Rattle.std.proofs.Common.{◌≡◌, inl, Bool, true, false, List, ℕ, ◌≤◌, [], length, refl, sym, subst, Option, Some, None, Result, Ok, Err, is_err}
use Rattle.std.proofs.lemmas.List.Elements.{All-nil}
use Rattle.flat_model.specs.Trace.{trace_max}
use Rattle.program_io.specs.declared.device.DeviceFault.{DeviceFault}
use Rattle.trace_talk.specs.declared.summary.Summary.{Summary}
use Rattle.program_io.specs.Device.{TakesFront, WholeWrite}
use Rattle.shell_main.specs.declared.fault.ShellFault.{ShellFault}
use Rattle.shell_main.specs.declared.fault.ShellFault.TheVariants.{Read, Write, InputTooLong, OutOfMemory, NotACommand}
use Rattle.shell_main.specs.declared.options.Options.{Options}
use Rattle.trace_talk.specs.Points.{start_point}
use Rattle.shell_main.specs.Devices.{SinkState, SourceState}
use Rattle.shell_main.specs.Forgetful.{output_of}
use Rattle.shell_main.specs.Shelled.{BeginsWith, IsStopped, Shelled, ShelledBy}
use Rattle.shell_main.proofs.ForgetfulCuts.{answers_none}
use Rattle.shell_main.proofs.ReadStates.{both_written}
use Rattle.shell_main.proofs.WholeLineTexts.{before_last, clean_none}

nothing : (left : Option (List ℕ)) → BeginsWith left []
nothing None = tt
nothing (Some xs) = (xs, refl)

stopped_after : {history : Bool} {start mid : Option (List ℕ)} {source : SourceState} {sink : SinkState} {lines : List ℕ} (before : Option (List ℕ))
    → TakesFront before [] [] mid → IsStopped history start source mid sink lines → IsStopped history start source before sink lines
stopped_after {history} {mid} {sink} {lines} before w s = record {
  whole = s.whole;
  short = s.short;
  is_front = s.is_front;
  written = both_written before mid sink.taken [] (output_of history lines) [] w s.written;
  good_reads = s.good_reads;
  good_writes = s.good_writes;
  is_out = s.is_out;
}

-- what a shell leaves of a sink that was flushed before
pub after_flush : (r : Result Summary ShellFault) (how : Options) (start : Option (List ℕ)) (source : SourceState) (before mid : Option (List ℕ)) (sink : SinkState)
    → TakesFront before [] [] mid → ShelledBy how start source mid sink r → ShelledBy how start source before sink r
after_flush (Ok summary) how start source before mid sink w t =
    let s = t.0 in (
      record {
        trace = s.trace;
        is_input = s.is_input;
        short = s.short;
        written = both_written before mid sink.taken [] (output_of how.keeps_history s.trace) [] w s.written;
        commands = s.commands;
        refused = s.refused;
        good_reads = s.good_reads;
        good_writes = s.good_writes;
        is_out = s.is_out;
      },
      t.1,
    )
after_flush (Err Read) how start source before mid sink w s =
    let n = s.1.2 in (
      s.0,
      (
        s.1.0,
        s.1.1,
        record {
          whole = n.whole;
          short = n.short;
          unended = n.unended;
          read = n.read;
          written = both_written before mid sink.taken [] (output_of how.keeps_history s.1.0) [] w n.written;
          good = n.good;
          is_out = n.is_out;
        },
        s.1.3,
      ),
    )
after_flush (Err Write) how start source before mid sink w t =
    let s = t.0 in (
      record {
        lines = s.lines;
        whole = s.whole;
        short = s.short;
        is_front = s.is_front;
        rest = s.rest;
        written = both_written before mid sink.taken [] (output_of how.keeps_history s.lines) s.rest w s.written;
        good_reads = s.good_reads;
        bad_write = s.bad_write;
      },
      t.1,
    )
after_flush (Err InputTooLong) how start source before mid sink w s = (s.0, s.1, (stopped_after before w s.2.0, s.2.1, s.2.2))
after_flush (Err OutOfMemory) how start source before mid sink w s = (s.0, (stopped_after before w s.1.0, s.1.1))
after_flush (Err NotACommand) how start source before mid sink w t =
    let s = t.1 in (
      t.0,
      record {
        lines = s.lines;
        line = s.line;
        text = s.text;
        whole = s.whole;
        unended = s.unended;
        is_next = s.is_next;
        clean = s.clean;
        fault = s.fault;
        short = s.short;
        written = both_written before mid sink.taken [] (output_of how.keeps_history s.text) [] w s.written;
        good_reads = s.good_reads;
        good_writes = s.good_writes;
        is_out = s.is_out;
      },
    )

-- a shell that is not strict
pub lenient : (r : Result Summary ShellFault) (history : Bool) (start : Option (List ℕ)) (source : SourceState) (before : Option (List ℕ)) (sink : SinkState)
    → ShelledBy (record { is_strict = false; keeps_history = history }) start source before sink r → Shelled history start source before sink r
lenient (Ok summary) history start source before sink s = s.0
lenient (Err Read) history start source before sink s = (s.0, (s.1.0, s.1.1, s.1.2))
lenient (Err Write) history start source before sink s = s.0
lenient (Err InputTooLong) history start source before sink s = (s.0, s.1, (s.2.0, s.2.1))
lenient (Err OutOfMemory) history start source before sink s = (s.0, s.1.0)
lenient (Err NotACommand) history start source before sink s = let e = s.0 in cc

-- the flush failed
pub unflushed : (r : Result (Unit {0}) DeviceFault) (how : Options) (start : Option (List ℕ)) (source : SourceState) (before : Option (List ℕ)) (sink : SinkState)
    → WholeWrite before [] sink.taken sink.failed sink.flushed r → is_err r ≡ true → source.failed ≡ false → ShelledBy how start source before sink (Err Write)
unflushed (Ok u) how start source before sink w e r = cc
unflushed (Err f) how start source before sink w e r = (
  record {
    lines = [];
    whole = inl refl;
    short = All-nil (λ (l : List ℕ). length l ≤ trace_max);
    is_front = nothing start;
    rest = w.1.0;
    written = subst (λ x. TakesFront before x w.1.0 sink.taken) (sym (answers_none how.keeps_history start_point)) w.1.1;
    good_reads = r;
    bad_write = w.0;
  },
  before_last how.is_strict [] (clean_none how.is_strict),
)

-- it did not
pub flushed_by : (r : Result (Unit {0}) DeviceFault) (before : Option (List ℕ)) (sink : SinkState)
    → WholeWrite before [] sink.taken sink.failed sink.flushed r → is_err r ≡ false → (sink.failed ≡ false) × (sink.flushed ≡ true) × TakesFront before [] [] sink.taken
flushed_by (Ok u) before sink w e = w
flushed_by (Err f) before sink w e = cc

-- there was no memory for the engine
pub unstarted : (how : Options) (start : Option (List ℕ)) (source : SourceState) (before : Option (List ℕ)) (sink : SinkState)
    → (sink.failed ≡ false) × (sink.flushed ≡ true) × TakesFront before [] [] sink.taken → source.failed ≡ false → ShelledBy how start source before sink (Err OutOfMemory)
unstarted how start source before sink w r = (
  [],
  (
    record {
      whole = refl;
      short = All-nil (λ (l : List ℕ). length l ≤ trace_max);
      is_front = nothing start;
      written = subst (λ x. TakesFront before x [] sink.taken) (sym (answers_none how.keeps_history start_point)) w.2;
      good_reads = r;
      good_writes = w.0;
      is_out = w.1;
    },
    clean_none how.is_strict,
  ),
)
