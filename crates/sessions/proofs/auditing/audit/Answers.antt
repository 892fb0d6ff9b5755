use Rattle.std.proofs.Common.{subst, Bool, List, ℕ, ◌<◌, ◌≡◌, length, true, slice_index_or}
use Rattle.sessions.specs.Marks.{IsFirstClear}
use Rattle.sessions.proofs.AuditLists.{audited_whole, all_entries, first_missing}
use Rattle.sessions.proofs.auditing.audit.Goals as goal

pub returns-in-Some-clause-fault : goal.returns-in-Some-clause-fault
returns-in-Some-clause-fault c =
    let P : List Bool → Type 0 = λ ms. IsFirstClear ms c.in-Some.number in
    first_missing c.args.n c.args.log.now c.loop-place.marks.items c.args.sessions.now c.in-Some.number
    (audited_whole c.args.n c.args.log.now c.loop-place.marks.items c.args.sessions.now c.loop-place.place c.loop-place-test.false c.loop-place.invariant)
    (subst P c.as_slice.ensures.value c.in-Some.ensures.some)

pub returns-clause-ok : goal.returns-clause-ok
returns-clause-ok c =
    let P : List Bool → Type 0 = λ ms. (i : ℕ) → i < length ms → slice_index_or ms i true ≡ true in
    all_entries c.args.n c.args.log.now c.loop-place.marks.items c.args.sessions.now
    (audited_whole c.args.n c.args.log.now c.loop-place.marks.items c.args.sessions.now c.loop-place.place c.loop-place-test.false c.loop-place.invariant)
    (subst P c.as_slice.ensures.value c.in-None.ensures.none)
