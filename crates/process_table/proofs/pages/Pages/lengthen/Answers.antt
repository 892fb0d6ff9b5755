use Rattle.std.proofs.Common.{[], ◌∙◌}
use Rattle.process_table.proofs.PageChanges.{read-padded}
use Rattle.process_table.proofs.pages.Pages.lengthen.Goals as goal

pub loop-self-preserved : goal.loop-self-preserved
loop-self-preserved g c = λ p. rw (c.in_ok-push.ensures.items, c.unmade.ensures) (read-padded c.loop-self.self-inside.pages.items [] p ∙ c.loop-self.invariant p)
