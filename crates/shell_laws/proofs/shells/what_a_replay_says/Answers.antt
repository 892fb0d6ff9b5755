use Rattle.std.proofs.Common.{◌∙◌, ◌≤◌, true, List, ℕ, Option, Some, Ok, length, subst, sym, zero-add}
use Rattle.flat_model.specs.Replies.{refused_count}
use Rattle.flat_model.specs.Trace.{read_trace, trace_max}
use Rattle.sessions.specs.SessionMeaning.{slots}
use Rattle.trace_talk.specs.declared.summary.Summary.{Summary}
use Rattle.replay_main.specs.Replayed.{Replayed}
use Rattle.shell_main.specs.Devices.{SinkState, SourceState}
use Rattle.shell_main.specs.Shelled.{Shelled}
use Rattle.shell_laws.proofs.Shorts.{lines_up_to}
use Rattle.shell_laws.proofs.shells.what_a_replay_says.Goals as goal

as_replayed : (start : List ℕ) (source : SourceState) (before : Option (List ℕ)) (sink : SinkState) (summary : Summary) → length start ≤ trace_max
    → Shelled true (Some start) source before sink (Ok summary) → Replayed (Some start) source.failed before sink.taken sink.failed sink.flushed (Ok summary)
as_replayed start source before sink summary le s = record {
  trace = s.trace;
  is_input = s.is_input;
  short = let P : List ℕ → Type 0 = λ t. length t ≤ trace_max in subst P s.is_input le;
  written = s.written;
  counts = record { commands = s.commands; refused = s.refused ∙ zero-add (refused_count slots (read_trace s.trace)) };
  good_reads = s.good_reads;
  good_writes = s.good_writes;
  is_out = s.is_out;
}

as_shelled : (start : List ℕ) (source : SourceState) (before : Option (List ℕ)) (sink : SinkState) (summary : Summary)
    → Replayed (Some start) source.failed before sink.taken sink.failed sink.flushed (Ok summary) → Shelled true (Some start) source before sink (Ok summary)
as_shelled start source before sink summary s = record {
  trace = s.trace;
  is_input = s.is_input;
  short = lines_up_to trace_max s.trace s.short;
  written = s.written;
  commands = s.counts.commands;
  refused = s.counts.refused ∙ sym (zero-add (refused_count slots (read_trace s.trace)));
  good_reads = s.good_reads;
  good_writes = s.good_writes;
  is_out = s.is_out;
}

pub returns : goal.returns
returns c = λ start source before sink summary le. (as_replayed start source before sink summary le, as_shelled start source before sink summary)
