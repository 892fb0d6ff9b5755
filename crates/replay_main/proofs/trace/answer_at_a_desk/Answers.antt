use Rattle.std.proofs.Common.{rules, ◌≡◌, ◌∙◌, length, true, ap, refl, sym, subst, arith}
use Rattle.std.specs.List.{All, sum_by}
use Rattle.flat_model.specs.Log.{IsLegal}
use Rattle.flat_model.specs.Trace.{read_trace}
use Rattle.replay_main.specs.declared.texts.Part.{Part}
use Rattle.sessions.specs.SessionMeaning.{slots}
use Rattle.replay_main.specs.Script.{AreScripts, all_commands, all_places}
use Rattle.replay_main.proofs.PhaseAnswers.{few_commands, few_places, few_refused, is_answered}
use Rattle.replay_main.proofs.trace.answer_at_a_desk.Goals as goal

pub sizes-lines-requires-clause-places : goal.sizes-lines-requires-clause-places
sizes-lines-requires-clause-places g c =
    let same = ap (λ t. length (all_places t)) c.as_slice-scripts.ensures.value in
    let few = few_places c.args.trace.now c.in-Ok.read.items c.requires.trace c.in-Ok.ensures.scripts in
    omega (arith, same, few)

pub sizes-lines-requires-clause-commands : goal.sizes-lines-requires-clause-commands
sizes-lines-requires-clause-commands g c =
    let same = ap (λ t. length (all_commands t)) c.as_slice-scripts.ensures.value in
    let few = few_commands c.args.trace.now c.in-Ok.read.items c.requires.trace c.in-Ok.ensures.scripts in
    omega (arith, same, few)

pub answers_of-requires-clause-places : goal.answers_of-requires-clause-places
answers_of-requires-clause-places g c κs within =
    let same = ap (λ t. length (all_places t)) c.as_slice-scripts.ensures.value in
    let few = few_places c.args.trace.now c.in-Ok.read.items c.requires.trace c.in-Ok.ensures.scripts in
    omega (arith, same, few)

pub count_all_refused-requires : goal.count_all_refused-requires
count_all_refused-requires g c =
    let scripts = c.as_slice-scripts.result.now in
    let log = c.as_slice.result.now in
    let are : AreScripts scripts (read_trace c.args.trace.now) =
    subst (λ ss. AreScripts ss (read_trace c.args.trace.now)) (sym c.as_slice-scripts.ensures.value) c.in-Ok.ensures.scripts in
    let many : length log ≡ length (all_commands scripts) = search rules in
    few_refused c.args.trace.now scripts log (sum_by (λ part. part.refused) c.as_slice-3.result.now) c.requires.trace are many
    (ap (λ ps. sum_by (λ (part : Part). part.refused) ps) c.as_slice-3.ensures.value ∙ c.in-Ok-answers_of.ensures.refused)

pub returns-in-Ok-join-clause-ok : goal.returns-in-Ok-join-clause-ok
returns-in-Ok-join-clause-ok g c =
    let scripts = c.as_slice-scripts.result.now in
    let log = c.as_slice.result.now in
    let are : AreScripts scripts (read_trace c.args.trace.now) =
    subst (λ ss. AreScripts ss (read_trace c.args.trace.now)) (sym c.as_slice-scripts.ensures.value) c.in-Ok.ensures.scripts in
    let legal : IsLegal slots log = subst (λ es. IsLegal slots es) (sym c.as_slice.ensures.value) c.in_ok-log.ensures.legal in
    let all = subst (λ ps. All (λ (part : Part). part.is_logged ≡ true) ps) c.as_slice-2.ensures.value (c.if-not-all_logged.ensures refl) in
    is_answered c.args.trace.now c.in-Ok-join.bytes.items scripts log (length scripts) _ are legal (c.in-Ok-answers_of.ensures.logged all)
    (c.in-Ok-join.ensures ∙ c.in-Ok-answers_of.ensures.bytes)
    c.sizes-lines.ensures.places
    (c.count_all_refused.ensures ∙ ap (λ ps. sum_by (λ (part : Part). part.refused) ps) c.as_slice-3.ensures.value ∙ c.in-Ok-answers_of.ensures.refused)
