use Rattle.std.proofs.Common.{◌≡◌, ◌∙◌, true, [], sym, subst, inr, map, option_map}
use Rattle.clap.specs.Words.{HasKind, app_of, fault_of, is_simple_and_free, kind_of}
use Rattle.replay_main.specs.ReplayArguments.{AsksReplayBy, rehearsal_in, rehearsal_said, workers_in, workers_said}
use Rattle.replay_main.proofs.ReplayCommandLine.{app_free, asks_by, rehearsal_said_in, said_in}
use Rattle.replay_main.proofs.arguments.read_words.Goals as goal

pub returns-in-Some : goal.returns-in-Some
returns-in-Some g c =
    let words = map g.S.AsStr.text c.args.words.now in
    let m = c.in-Ok-try_get_matches_from in
    let is = c.in-Ok.ensures in
    let said : workers_said (option_map (λ s. s.now) c.get_str.result) ≡ workers_in words = said_in (app_of c.in-Ok.command) words m.matches _ is m.ensures.matches c.get_str.ensures in
    let rehearsed : rehearsal_said (option_map (λ s. s.now) c.get_str-in-Some.result) ≡ rehearsal_in words =
    rehearsal_said_in (app_of c.in-Ok.command) words m.matches _ is m.ensures.matches c.get_str-in-Some.ensures in (
      subst (λ a. is_simple_and_free a ≡ true → fault_of a words ≡ []) is m.ensures.kinds app_free,
      sym said ∙ sym c.in-Some.ensures.said,
      c.in-Some.ensures.bounds.0,
      c.in-Some.ensures.bounds.1,
      c.is_true.ensures ∙ rehearsed,
    )

pub returns-in-Ok-try_get_matches_from : goal.returns-in-Ok-try_get_matches_from
returns-in-Ok-try_get_matches_from g c =
    let words = map g.S.AsStr.text c.args.words.now in
    let m = c.in-Ok-try_get_matches_from in
    let is = c.in-Ok.ensures in
    let said : workers_said (option_map (λ s. s.now) c.get_str.result) ≡ workers_in words = said_in (app_of c.in-Ok.command) words m.matches _ is m.ensures.matches c.get_str.ensures in
    inr (
      subst (λ a. is_simple_and_free a ≡ true → fault_of a words ≡ []) is m.ensures.kinds app_free,
      sym said ∙ sym c.in-None.ensures.said,
    )

pub returns : goal.returns
returns g c =
    let words = map g.S.AsStr.text c.args.words.now in
    let is = c.in-Ok.ensures in
    asks_by words (kind_of c.in-Err.error) c.asked_by.result (subst (λ b. AsksReplayBy b (kind_of c.in-Err.error) c.asked_by.result) c.cluster_first.ensures c.asked_by.ensures)
    (subst (λ a. is_simple_and_free a ≡ true → HasKind (fault_of a words) c.in-Err.error) is c.in-Err.ensures.kinds app_free)
