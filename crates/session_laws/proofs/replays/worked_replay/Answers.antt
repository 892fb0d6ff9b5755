use Rattle.std.proofs.Common.{refl, sym, codes, arith}
use Rattle.std.specs.Fmt.{digits}
use Rattle.flat_model.specs.Values.{number_fault}
use Rattle.flat_model.specs.PathText.{name_fault, path_fault}
use Rattle.flat_model.specs.Trace.{command_of_words, read_trace}
use Rattle.flat_model_laws.proofs.ExamplesMachine.{answers_by_lists, refused_by_lists}
use Rattle.sessions.specs.SessionMeaning.{slots}
use Rattle.session_laws.proofs.replays.worked_replay.Goals as goal

pub returns : goal.returns
unfolding digits number_fault name_fault path_fault command_of_words
returns c = record {
  trace = codes "mkdir /a\nundo\nundo\n";
  is_input = refl;
  short = omega arith;
  written = (codes "1 ok\n2 ok\n| mkdir /a\n3 refused nothing\n", answers_by_lists slots (codes "mkdir /a\nundo\nundo\n"), refl);
  counts = record { commands = refl; refused = sym (refused_by_lists slots (read_trace (codes "mkdir /a\nundo\nundo\n"))) };
  good_reads = refl;
  good_writes = refl;
  is_out = refl;
}
