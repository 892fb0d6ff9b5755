-- Where a short log ends, computed over lists.
use Rattle.std.proofs.Common.{◌≡◌, [], ◌∷◌, Option, ap, ◌∙◌}
use Rattle.flat_model.specs.State.{State, start}
use Rattle.flat_model.specs.Command.{Command, Undo, Refusal}
use Rattle.flat_model.specs.Step.{refusal, after}
use Rattle.flat_model.specs.Machine.{Machine, new_machine, recorded, outcome, tick, end_of}
use Rattle.flat_model.specs.Log.{log_end}
use Rattle.flat_model_laws.specs.AuditExamples.{made, shown, undone, three}
use Rattle.flat_model_laws.proofs.ExamplesReads.{Lists, lists_of, reads_in, reads_are, refusal_by, refusal_reads}
use Rattle.flat_model_laws.proofs.ExamplesLists.{leaves, after_leaves, start_lists, start_leaves}

refusal_over : (s : State) (l : Lists) (c : Command) → lists_of s ≡ l → refusal 256 s c ≡ refusal_by 256 (reads_in l) c
refusal_over s l c e = refusal_reads 256 s c ∙ ap (λ r. refusal_by 256 r c) (reads_are s) ∙ ap (λ k. refusal_by 256 (reads_in k) c) e

-- the machine after the group is made
abbrev with_group : Machine
with_group = recorded new_machine made.command (after start made.command)

made_leaves : (tick 256 new_machine made.command).0 ≡ with_group
made_leaves = ap (λ (o : Option Refusal). (outcome new_machine made.command o).0) (refusal_over start start_lists made.command start_leaves)

shown_leaves : (tick 256 with_group shown.command).0 ≡ with_group
shown_leaves =
    ap (λ (o : Option Refusal). (outcome with_group shown.command o).0)
    (refusal_over with_group.state (leaves start_lists made.command) shown.command (after_leaves start made.command ∙ ap (λ l. leaves l made.command) start_leaves))

pub ends_at_the_start : log_end 256 (three made shown undone) ≡ new_machine
ends_at_the_start =
    ap (λ (m : Machine). end_of 256 m (shown.command ∷ Undo ∷ [])) made_leaves
    ∙ ap (λ (m : Machine). end_of 256 m (Undo ∷ [])) shown_leaves
