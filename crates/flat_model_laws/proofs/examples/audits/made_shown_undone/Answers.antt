use Rattle.std.proofs.Common.{map}
use Rattle.std.specs.Fmt.{digits}
use Rattle.flat_model.specs.Command.{Done}
use Rattle.flat_model.specs.Log.{Entry}
use Rattle.flat_model_laws.specs.AuditExamples.{made, shown, undone, three}
use Rattle.flat_model_laws.proofs.ExamplesMachine.{replies_by_lists}
use Rattle.flat_model_laws.proofs.ExamplesAudits.{changed}
use Rattle.flat_model_laws.proofs.examples.audits.made_shown_undone.Goals as goal

pub returns-clause-legal : goal.returns-clause-legal
unfolding digits
returns-clause-legal c = replies_by_lists 256 (map (λ (e : Entry). e.command) (three made shown undone))

pub returns-clause-changed : goal.returns-clause-changed
returns-clause-changed c = changed made shown undone (record shown { reply = Done }) (λ e. cc e)
