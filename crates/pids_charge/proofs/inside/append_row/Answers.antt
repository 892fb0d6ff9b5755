use Rattle.std.proofs.Common.{◌≡◌, ℕ, ◌+◌, cond, eqb, count_by, length, List, Result, Ok, Err, OnOk, is_ok, sym, ap, ◌∙◌, arith}
use Rattle.std.proofs.lemmas.Bool.{eqb-true, eqb-false}
use Rattle.flat_model.proofs.Sums.{count_by-append}
use Rattle.process_table.proofs.Outcomes.{on_ok}
use Rattle.pids_charge.proofs.RowsInside.{chosen_in, none_in, of_pids}
use Rattle.pids_charge.proofs.inside.append_row.Goals as goal

grown : {T E : Type 0} (r : Result T E) (new longer old : List ℕ) → new ≡ cond (is_ok r) longer old → OnOk r (new ≡ longer)
grown (Ok x) new longer old e = e
grown (Err x) new longer old e = tt

pub returns-then-is_empty : goal.returns-then-is_empty
returns-then-is_empty g c = λ p i t q.
    let none = none_in g.M.Meter.LEAVES c.args.tree.now c.args.processes.now c.requires.placed c.args.at c.unordered-own.result.now c.unordered-own.ensures.counted p
    (eqb-true (length c.unordered-own.result.now) 0 (sym c.is_empty.ensures ∙ c.if-is_empty.true)) q in
    omega (arith, none)

pub is_at_or_below-requires-clause-group : goal.is_at_or_below-requires-clause-group
is_at_or_below-requires-clause-group g c =
    let some = eqb-false (length c.unordered-own.result.now) 0 (sym c.is_empty.ensures ∙ c.if-is_empty.false) in
    of_pids g.M.Meter.LEAVES c.args.tree.now c.args.processes.now c.requires.placed c.args.at c.unordered-own.result.now c.unordered-own.ensures.counted
    (omega (arith, some))

pub returns-then-is_at_or_below : goal.returns-then-is_at_or_below
returns-then-is_at_or_below g c = on_ok c.extend_from_slice.result (λ items p i t q.
    ap (count_by (eqb q)) items ∙ count_by-append (eqb q) c.args.pids.now.items c.unordered-own.result.now
    ∙ ap (λ n. count_by (eqb q) c.args.pids.now.items + n) (ap (λ b. cond b (count_by (eqb q) c.unordered-own.result.now) 0) (sym c.if-is_at_or_below.true)
    ∙ chosen_in g.M.Meter.LEAVES c.args.tree.now c.args.processes.now c.requires.placed c.args.at c.unordered-own.result.now c.unordered-own.ensures.counted p
    c.is_at_or_below.result (λ r j e. c.is_at_or_below.ensures r p j i e t) q)) (grown c.extend_from_slice.result _ _ _ c.extend_from_slice.ensures.items)

pub returns : goal.returns
returns g c = λ p i t q.
    let none = ap (λ b. cond b (count_by (eqb q) c.unordered-own.result.now) 0) (sym c.if-is_at_or_below.false)
    ∙ chosen_in g.M.Meter.LEAVES c.args.tree.now c.args.processes.now c.requires.placed c.args.at c.unordered-own.result.now c.unordered-own.ensures.counted p
    c.is_at_or_below.result (λ r j e. c.is_at_or_below.ensures r p j i e t) q in
    omega (arith, none)
