use Rattle.std.proofs.Common.{◌≡◌, ℕ, ◌+◌, ◌<◌, List, ◌∙◌, sym, ap, length, take, get_or, sum_by, subst, IsSome}
use Rattle.std.proofs.lemmas.List.Elements.{All-get_or}
use Rattle.std.proofs.lemmas.List.Sums.{sum_by_more}
use Rattle.std.specs.FinMap as fin
use Rattle.pids_charge.specs.declared.lost.Lost.{Lost}
use Rattle.pids_charge.specs.Recount.{charges_at}
use Rattle.pids_charge.proofs.place.tokens_of.Goals as goal

-- a sum with one item more
with_next : {X : Type 0} (f : X → ℕ) (xs : List X) (i : ℕ) (x : X) (old new : ℕ) → i < length xs → x ≡ get_or xs i x → old ≡ sum_by f (take i xs) → new ≡ old + f x → new ≡ sum_by f (take (i + 1) xs)
with_next f xs i x old new h is so_far more = more ∙ ap (λ k. k + f x) so_far ∙ ap (λ y. sum_by f (take i xs) + f y) is ∙ sym (sum_by_more f xs i x h)

pub push_up-requires-clause-group : goal.push_up-requires-clause-group
push_up-requires-clause-group g c =
    let home = subst (λ (l : Lost g.row.B.Denot). IsSome (fin.get c.args.tree.now l.path)) (sym c.lost-item.is)
    (All-get_or (λ l. IsSome (fin.get c.args.tree.now l.path)) c.args.list.now c.loop-lost.lost-index c.lost-item.result c.loop-lost-test.true c.requires.homes) in
    record { path = c.lost-item.result.path; there = home; here = c.row_in-row.ensures }

pub loop-lost-preserved : goal.loop-lost-preserved
loop-lost-preserved g c =
    let told = c.in_ok-push_up.ensures in
    let home = subst (λ (l : Lost g.row.B.Denot). IsSome (fin.get c.args.tree.now l.path)) (sym c.lost-item.is)
    (All-get_or (λ l. IsSome (fin.get c.args.tree.now l.path)) c.args.list.now c.loop-lost.lost-index c.lost-item.result c.loop-lost-test.true c.requires.homes) in
    record {
      counted = λ s j. with_next (λ x. charges_at c.args.tree.now x.path c.args.leaf s j) c.args.list.now c.loop-lost.lost-index
          c.lost-item.result _ _ c.loop-lost-test.true c.lost-item.is (c.loop-lost.invariant.counted s j) (told.counted c.lost-item.result.path home c.row_in-row.ensures s j);
      many = with_next (λ x. length x.path) c.args.list.now c.loop-lost.lost-index c.lost-item.result _ _ c.loop-lost-test.true c.lost-item.is c.loop-lost.invariant.many (told.many c.lost-item.result.path home c.row_in-row.ensures);
      within = told.within;
    }
