use Rattle.std.proofs.Common.{◌∙◌, sym, ap, arith, length, List, ℕ}
use Rattle.group_path.proofs.GrammarTests.{child_long, child_passes}
use Rattle.group_path.proofs.path.GroupPath.check_child.Goals as goal

pub returns-then-spelled-name-gt-TEXT_MAX : goal.returns-then-spelled-name-gt-TEXT_MAX
returns-then-spelled-name-gt-TEXT_MAX g c =
    let l = ap (λ (x : List ℕ). length x) c.spelled.ensures in
    child_long c.args.self.now c.args.name.now c.in_ok-check_name.field-0 (sym c.check_name.ensures ∙ c.in_ok-check_name.was) (omega arith) (omega arith)

pub returns : goal.returns
returns g c =
    let l = ap (λ (x : List ℕ). length x) c.spelled.ensures in
    child_passes c.args.self.now c.args.name.now c.in_ok-check_name.field-0 (sym c.check_name.ensures ∙ c.in_ok-check_name.was) (omega arith) (omega arith)
