use Rattle.std.proofs.Common.{rules, ◌≡◌, ap}
use Rattle.clap.specs.Words.{app_of, rule_of}
use Rattle.clap.specs.Simple.{app_of_fields}
use Rattle.replay_main.specs.ReplayArguments.{rehearse_rule, workers_rule}
use Rattle.replay_main.proofs.ReplayCommandLine.{app_is}
use Rattle.replay_main.proofs.arguments.program.Goals as goal

pub returns : goal.returns
returns c =
    let workers_is : rule_of c.help-workers.result ≡ workers_rule = search rules in
    let rehearse_is : rule_of c.help-rehearse.result ≡ rehearse_rule = search rules in
    app_is (app_of c.new-3.result) (app_of c.no_binary_name-bare.result) (app_of c.in_ok-one.one) (app_of c.in_ok-both.both) (rule_of c.help-workers.result) (rule_of c.help-rehearse.result)
    c.new-3.ensures.app (ap app_of_fields c.no_binary_name-bare.ensures) (c.in_ok-one.ensures.shape (search rules)) (c.in_ok-both.ensures.shape (search rules)) workers_is rehearse_is
