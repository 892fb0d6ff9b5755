use Rattle.std.proofs.Common.{rules, ◌≡◌, ◌∙◌, ◌+◌, ℕ, sym, ap, subst, List}
use Rattle.std.proofs.lemmas.Result.{err_from_is_err_and}
use Rattle.flat_model.specs.Log.{Receipt, Session}
use Rattle.flat_model.specs.Audit.{Handed}
use Rattle.sessions.proofs.AuditSteps.{Walk, walk_more}
use Rattle.sessions.proofs.AuditLists.{so_far, walk_none, refused_at, whole_at, so_far_more}
use Rattle.sessions.proofs.auditing.mark_session.Goals as goal

pub loop-receipt-init : goal.loop-receipt-init
loop-receipt-init c =
    walk_none c.args.n c.args.log.now c.args.marks.now.items c.args.sessions.now c.args.place c.session.inside.number c.deref-receipt-items.result.now c.requires.within c.requires.so_far

pub returns-in_err-mark-clause-fault : goal.returns-in_err-mark-clause-fault
returns-in_err-mark-clause-fault c =
    let p = err_from_is_err_and c.from_residual.result c.from_residual.ensures.1 in
    let v = c.session.view_is in
    let number : c.index-sessions-place.result.number ≡ c.session.inside.number = ap (λ (s : Session). s.number) (sym v) in
    let same : c.deref-receipt-items.result.now ≡ c.index-sessions-place.result.receipts = c.deref-receipt-items.ensures.value ∙ ap (λ (s : Session). s.receipts) v in
    rw (p.1, p.2)
    (refused_at c.args.n c.args.log.now c.loop-receipt.least c.loop-receipt.marks.items c.args.sessions.now c.args.place
    c.index-sessions-place.result c.session.inside.number c.deref-receipt-items.result.now c.loop-receipt.receipt-index
    c.receipt-item.result _
    c.requires.within c.index-sessions-place.is number same (search rules) c.receipt-item.is c.loop-receipt.invariant c.in_err-mark.ensures.fault)

pub loop-receipt-preserved : goal.loop-receipt-preserved
loop-receipt-preserved c =
    let e = c.in_ok-mark.ensures in
    let r : Receipt = c.receipt-item.result in
    let next : r.number + 1 ≡ c.receipt.inside.number + 1 = ap (λ (x : Receipt). x.number + 1) (sym c.receipt.view_is) in
    let P : List Handed → Type 0 = λ hs. Walk c.args.n c.args.log.now c.args.place (r.number + 1) c.mark.new.marks.items hs in
    let Q : ℕ → Type 0 = λ least. Walk c.args.n c.args.log.now c.args.place least c.mark.new.marks.items
    (so_far c.args.sessions.now c.args.place c.session.inside.number c.deref-receipt-items.result.now (c.loop-receipt.receipt-index + 1)) in
    subst Q next (subst P (so_far_more c.args.sessions.now c.args.place c.session.inside.number c.deref-receipt-items.result.now c.loop-receipt.receipt-index r (search rules) c.receipt-item.is)
    (walk_more c.args.n c.args.log.now c.args.place c.loop-receipt.least c.loop-receipt.marks.items c.mark.new.marks.items _ c.session.inside.number r c.loop-receipt.invariant e.new e.entry e.marks))

pub returns-clause-ok : goal.returns-clause-ok
returns-clause-ok c =
    let v = c.session.view_is in
    let number : c.index-sessions-place.result.number ≡ c.session.inside.number = ap (λ (s : Session). s.number) (sym v) in
    let same : c.deref-receipt-items.result.now ≡ c.index-sessions-place.result.receipts = c.deref-receipt-items.ensures.value ∙ ap (λ (s : Session). s.receipts) v in
    whole_at c.args.n c.args.log.now c.loop-receipt.least c.loop-receipt.marks.items c.args.sessions.now c.args.place
    c.index-sessions-place.result c.session.inside.number c.deref-receipt-items.result.now c.loop-receipt.receipt-index
    c.requires.within c.index-sessions-place.is number same c.loop-receipt-test.false c.loop-receipt.invariant
