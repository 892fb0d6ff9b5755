use Rattle.std.proofs.Common.{rules, ◌≡◌, ◌↔◌, ◌∙◌, ℕ, Option, None, Bool, false, get_or, subst, arith}
use Rattle.std.specs.Prelude.{IsTrue}
use Rattle.sessions.specs.Waits.{IsDue, IsLeft, IsNoLater}
use Rattle.sessions.proofs.DueTurns.{set_next, set_behind, no_later_still}
use Rattle.sessions.proofs.waits.due_of.Goals as goal

pub loop-at-preserved : goal.loop-at-preserved
loop-at-preserved c =
    let i = c.loop-at.invariant in
    let n = c.loop-at.at in
    let before = c.args.waits.now in
    let here : get_or c.loop-at.waits n None ≡ get_or before n None = i.kept n (omega arith) in
    record {
      many_due = search (rules, i.many_due);
      many = search (rules, i.many);
      due = set_next (λ (k : ℕ) (b : Bool). IsTrue b ↔ IsDue c.args.reached (get_or before k None)) c.loop-at.due n c.is_due.result false (omega (arith, c.loop-at-test.true, i.many_due))
          (subst (λ (t : Option ℕ). IsTrue c.is_due.result ↔ IsDue c.args.reached t) here c.is_due.ensures) i.due;
      left = set_next (λ (k : ℕ) (w : Option ℕ). IsLeft c.args.reached (get_or before k None) w) c.loop-at.waits n c.left_of-left.result None (omega (arith, c.loop-at-test.true, i.many))
          (subst (λ (t : Option ℕ). IsLeft c.args.reached t c.left_of-left.result) here c.left_of-left.ensures) i.left;
      kept = λ k le. set_behind c.loop-at.waits n c.left_of-left.result None k le ∙ i.kept k (omega (arith, le));
      first = set_next (λ (k : ℕ) (w : Option ℕ). IsNoLater w c.first_of-first.result) c.loop-at.waits n c.left_of-left.result None (omega (arith, c.loop-at-test.true, i.many))
          c.first_of-first.ensures.other (λ k before. no_later_still (get_or c.loop-at.waits k None) c.loop-at.first c.first_of-first.result (i.first k before) c.first_of-first.ensures.one);
    }
