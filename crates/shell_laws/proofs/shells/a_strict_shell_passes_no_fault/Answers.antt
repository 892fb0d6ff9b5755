use Rattle.shell_main.specs.Forgetful.{output_of}
use Rattle.shell_laws.proofs.Stricts.{written_front}
use Rattle.shell_laws.proofs.shells.a_strict_shell_passes_no_fault.Goals as goal

pub returns : goal.returns
returns c = λ history start before source sink s.
    let broken = s.0 in
    let w = written_front before (output_of history broken.lines) broken.rest sink.taken broken.written in
    (broken.lines, broken.is_front.0, w.0, broken.rest, broken.is_front.1, s.1, w.1, w.2)
