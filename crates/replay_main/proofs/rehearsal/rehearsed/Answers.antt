use Rattle.std.proofs.Common.{◌∙◌, Some, is_some, map, length, refl, ap}
use Rattle.std.specs.List.{count_by}
use Rattle.flat_model.specs.Machine.{replies}
use Rattle.undo_journal.specs.CommandMeaning.{command_of, reply_of}
use Rattle.undo_journal.specs.Timeline.{Timeline}
use Rattle.replay_main.specs.Rehearsed.{answers_at_hand, is_refusal}
use Rattle.sessions.specs.SessionMeaning.{slots}
use Rattle.replay_main.specs.Script.{place_of}
use Rattle.replay_main.proofs.Rehearsals.{rehearsed_is}
use Rattle.replay_main.proofs.rehearsal.rehearsed.Goals as goal

pub returns : goal.returns
returns g c =
    let script = c.in_ok-script.script in
    let told = c.in_ok-replies.replies.items in
    rehearsed_is c.args.trace.now c.in_ok-bytes.bytes.items script (map reply_of told) _ c.count_faults.result c.count_refusals.result
    c.in_ok-script.ensures
    (c.in_ok-replies.ensures ∙ ap (λ cs. map Some (replies slots c.in_ok-engine.engine.machine (map command_of cs))) c.as_slice.ensures.value
    ∙ ap (λ (t : Timeline). map Some (replies slots t.machine (map command_of script.commands.items))) c.in_ok-engine.ensures)
    (c.in_ok-bytes.ensures
    ∙ ap (λ ps. answers_at_hand 1 (map place_of ps) (map reply_of c.as_slice-said.result.now)) c.as_slice-places.ensures.value
    ∙ ap (λ rs. answers_at_hand 1 (map place_of script.places.items) (map reply_of rs)) c.as_slice-said.ensures.value)
    (ap (λ ps. length ps) c.as_slice-places.ensures.value)
    refl
    (c.count_faults.ensures ∙ ap (λ ps. count_by is_some (map place_of ps)) c.as_slice-places.ensures.value)
    (c.count_refusals.ensures.count ∙ ap (λ rs. count_by is_refusal (map reply_of rs)) c.as_slice-said.ensures.value)
