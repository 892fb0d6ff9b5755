use Rattle.std.proofs.Common.{◌≡◌, ◌∙◌, true, not, [], map, string_bytes, codes, subst}
use Rattle.clap.specs.Words.{HasKind, app_of, fault_of, is_simple_and_free, kind_of}
use Rattle.shell_main.specs.ShellArguments.{AsksShellBy}
use Rattle.shell_main.proofs.CommandLine.{app_free, asks_by, file_said_in, flag_said_in}
use Rattle.shell_main.proofs.arguments.read_words.Goals as goal

pub returns-in-Ok-try_get_matches_from : goal.returns-in-Ok-try_get_matches_from
returns-in-Ok-try_get_matches_from c =
    let words = map string_bytes c.args.words.now in
    let m = c.in-Ok-try_get_matches_from in
    let is = c.in-Ok.ensures in
    let strict = c.is_true.ensures ∙ flag_said_in (app_of c.in-Ok.command) words m.matches (codes "strict") _ is m.ensures.matches c.get_str-in-Ok-try_get_matches_from.ensures in
    let no_undo = c.is_true-in-Ok-try_get_matches_from.ensures
    ∙ flag_said_in (app_of c.in-Ok.command) words m.matches (codes "no-undo") _ is m.ensures.matches
    c.get_str-in-Ok-try_get_matches_from-2.ensures in (
      subst (λ a. is_simple_and_free a ≡ true → fault_of a words ≡ []) is m.ensures.kinds app_free,
      file_said_in (app_of c.in-Ok.command) words m.matches _ is m.ensures.matches c.get_str.ensures,
      λ i. record { is_strict = strict i; keeps_history = not (no_undo i) },
    )

pub returns-in-Err : goal.returns-in-Err
returns-in-Err c =
    let words = map string_bytes c.args.words.now in
    let is = c.in-Ok.ensures in
    asks_by words (kind_of c.in-Err.error) c.asked_by.result (subst (λ b. AsksShellBy b (kind_of c.in-Err.error) c.asked_by.result) c.cluster_first.ensures c.asked_by.ensures)
    (subst (λ a. is_simple_and_free a ≡ true → HasKind (fault_of a words) c.in-Err.error) is c.in-Err.ensures.kinds app_free)
