use Rattle.std.proofs.Common.{ℕ, List, ◌∙◌, ◌<◌, length, subst}
use Rattle.group_path.proofs.PathTexts.{long_text}
use Rattle.group_path.proofs.path.GroupPath.spelled.Goals as goal

pub returns-then-text-gt1 : goal.returns-then-text-gt1
returns-then-text-gt1 g c =
    c.as_slice-text.ensures
    ∙ long_text c.self.inside.text c.args.self.now c.self.view_is c.self.invariant (subst (λ (x : List ℕ). 1 < length x) c.as_slice-text.ensures c.if-text-gt1.true)
