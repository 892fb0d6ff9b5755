use Rattle.std.proofs.Common.{[], ◌∙◌}
use Rattle.process_table.proofs.PageChanges.{read-padded}
use Rattle.process_table.proofs.members.RowMembers.grow.Goals as goal

pub loop-self-preserved : goal.loop-self-preserved
loop-self-preserved g c = λ s. rw (c.in_ok-push.ensures.items, c.new.ensures) (read-padded c.loop-self.self-inside.lists.items [] s ∙ c.loop-self.invariant s)
