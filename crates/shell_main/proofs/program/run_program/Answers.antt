use Rattle.std.proofs.Common.{Result, Ok, Err, drop, inl, map, string_bytes, subst}
use Rattle.trace_talk.specs.declared.summary.Summary.{Summary}
use Rattle.shell_main.specs.declared.arguments.Ask.{Ask}
use Rattle.shell_main.specs.declared.fault.ShellFault.{ShellFault}
use Rattle.shell_main.specs.declared.options.Options.{Options}
use Rattle.shell_main.specs.ShellArguments.{AsksShell}
use Rattle.shell_main.specs.Shelled.{ShelledBy}
use Rattle.shell_main.proofs.program.run_program.Goals as goal

pub returns-in-Ok-clause-ran : goal.returns-in-Ok-clause-ran
returns-in-Ok-clause-ran g c =
    let words = map string_bytes (drop 1 c.args.args.now) in
    let P : Ask → Type 0 = λ a. AsksShell words (Ok a) in
    let asks = subst P c.in-Ok-Serve.field-0-is (subst (AsksShell words) c.in-Ok-Serve.is c.read_arguments.ensures) in
    let Q : Options → Result Summary ShellFault → Type 0 = λ b r. ShelledBy b (g.S.Source.left c.args.reader.now)
    (record { left = g.S.Source.left c.shell_by.new.reader; failed = g.S.Source.is_failed c.shell_by.new.reader }) (g.W.Sink.taken c.args.writer.now)
    (record { taken = g.W.Sink.taken c.shell_by.new.writer; failed = g.W.Sink.is_failed c.shell_by.new.writer; flushed = g.W.Sink.is_flushed c.shell_by.new.writer }) r in
    inl record {
      no_fault = asks.0;
      summary = c.in-Ok.field-0;
      served = subst (λ b. Q b (Ok c.in-Ok.field-0)) asks.2 (subst (Q c.in-Ok-Serve.options) c.in-Ok.is c.shell_by.ensures);
    }

pub returns-in-Ok-Serve-clause-ran : goal.returns-in-Ok-Serve-clause-ran
returns-in-Ok-Serve-clause-ran g c =
    let words = map string_bytes (drop 1 c.args.args.now) in
    let P : Ask → Type 0 = λ a. AsksShell words (Ok a) in
    let asks = subst P c.in-Ok-Serve.field-0-is (subst (AsksShell words) c.in-Ok-Serve.is c.read_arguments.ensures) in
    let Q : Options → Result Summary ShellFault → Type 0 = λ b r. ShelledBy b (g.S.Source.left c.args.reader.now)
    (record { left = g.S.Source.left c.shell_by.new.reader; failed = g.S.Source.is_failed c.shell_by.new.reader }) (g.W.Sink.taken c.args.writer.now)
    (record { taken = g.W.Sink.taken c.shell_by.new.writer; failed = g.W.Sink.is_failed c.shell_by.new.writer; flushed = g.W.Sink.is_flushed c.shell_by.new.writer }) r in
    let fault = c.in-Err-shell_by.fault in
    inl (asks.0, subst (λ b. Q b (Err fault)) asks.2 (subst (Q c.in-Ok-Serve.options) c.in-Err-shell_by.is c.shell_by.ensures))
