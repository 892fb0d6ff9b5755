use Rattle.replay_main.proofs.LogParts.{joined_answers, joined_log, joined_refused}
use Rattle.replay_main.proofs.RunJoins.{ok_gives}
use Rattle.replay_main.proofs.texts.answers_of.Goals as goal

pub returns-clause-bytes : goal.returns-clause-bytes
returns-clause-bytes g c =
    ok_gives c.in_runs.result _ _ c.in_runs.ensures
    (λ v run. joined_answers c.args.scripts.now c.args.log.now v.items c.requires.counted run (λ i p lt h. h))

pub returns-clause-refused : goal.returns-clause-refused
returns-clause-refused g c =
    ok_gives c.in_runs.result _ _ c.in_runs.ensures
    (λ v run. joined_refused c.args.scripts.now c.args.log.now v.items c.requires.log run (λ i p lt h. h))

pub returns-clause-logged : goal.returns-clause-logged
returns-clause-logged g c =
    ok_gives c.in_runs.result _ _ c.in_runs.ensures
    (λ v run all. joined_log c.args.scripts.now c.args.log.now v.items c.requires.log run (λ i p lt h. h) all)
