use Rattle.std.proofs.Common.{◌≡◌, [], ◌∷◌, map, sym, ◌∙◌}
use Rattle.std.specs.Fmt.{digits}
use Rattle.flat_model.specs.Command.{Done}
use Rattle.flat_model.specs.Log.{Entry}
use Rattle.flat_model_laws.specs.AuditExamples.{made, shown, undone, three}
use Rattle.flat_model_laws.proofs.ExamplesMachine.{replies_by_lists}
use Rattle.flat_model_laws.proofs.ExamplesLogs.{ends_at_the_start}
use Rattle.flat_model_laws.proofs.examples.logs.group_made_and_undone.Goals as goal

pub returns-clause-end : goal.returns-clause-end
returns-clause-end c = ends_at_the_start

pub returns-clause-other_second : goal.returns-clause-other_second
unfolding digits
returns-clause-other_second c = λ legal.
    let other : (made.reply ∷ shown.reply ∷ undone.reply ∷ []) ≡ (made.reply ∷ Done ∷ undone.reply ∷ []) =
    sym (replies_by_lists 256 (map (λ (e : Entry). e.command) (three made shown undone))) ∙ legal in
    cc other

pub returns-clause-other_third : goal.returns-clause-other_third
unfolding digits
returns-clause-other_third c = λ legal.
    let other : (made.reply ∷ shown.reply ∷ undone.reply ∷ []) ≡ (made.reply ∷ shown.reply ∷ Done ∷ []) =
    sym (replies_by_lists 256 (map (λ (e : Entry). e.command) (three made shown undone))) ∙ legal in
    cc other
