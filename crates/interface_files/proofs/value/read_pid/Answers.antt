use Rattle.std.proofs.Common.{◌∙◌, ap, Ok}
use Rattle.flat_model.specs.Values.{pid_max, trimmed}
use Rattle.interface_files.proofs.Numbers.{number_range}
use Rattle.interface_files.proofs.value.read_pid.Goals as goal
use Rattle.interface_files.proofs.value.read_pid.Goals.{in-Some, in-None+in_ok-number-in-None}

pub returns-in-None-new : goal.returns-in-None-new
returns-in-None-new c =
    let n = c.match-short_pid.number in
    elim c.match-short_pid.branch [
      | in-Some w ↦ absurd (c.in-None-new.ensures (number_range 1 pid_max (trimmed c.args.text.now) n (ap Ok w.number-is ∙ w.in-Some.ensures)))
      | in-None+in_ok-number-in-None w ↦
          absurd (c.in-None-new.ensures (number_range 1 pid_max w.trimmed.result.now n (ap Ok w.number-is ∙ w.in_ok-number-in-None.ensures)))
    ]
