use Rattle.std.proofs.Common.{rules, ◌≡◌, ap}
use Rattle.clap.specs.Words.{app_of, rule_of}
use Rattle.clap.specs.Simple.{app_of_fields}
use Rattle.shell_main.specs.ShellArguments.{file_rule, no_undo_rule, strict_rule}
use Rattle.shell_main.proofs.CommandLine.{app_is}
use Rattle.shell_main.proofs.arguments.program.Goals as goal

pub returns : goal.returns
returns c =
    let file_is : rule_of c.help-file.result ≡ file_rule = search (rules, c.help-file.ensures, c.new.ensures) in
    let strict_is : rule_of c.help-strict.result ≡ strict_rule = search rules in
    let no_undo_is : rule_of c.help-no_undo.result ≡ no_undo_rule = search rules in
    app_is (app_of c.new-4.result) (app_of c.version.result) (app_of c.about.result) (app_of c.no_binary_name-bare.result)
    (app_of c.in_ok-one.one) (app_of c.in_ok-both.both) (app_of c.in_ok-whole.whole) (rule_of c.help-file.result)
    (rule_of c.help-strict.result) (rule_of c.help-no_undo.result)
    c.new-4.ensures.app (ap app_of_fields c.version.ensures) (ap app_of_fields c.about.ensures)
    (ap app_of_fields c.no_binary_name-bare.ensures) (c.in_ok-one.ensures.shape (search (rules, c.help-file.ensures, c.new.ensures)))
    (c.in_ok-both.ensures.shape (search rules)) (c.in_ok-whole.ensures.shape (search rules))
    file_is strict_is no_undo_is
