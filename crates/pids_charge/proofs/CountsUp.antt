-- How many groups are below each, as the rows say it: for other rows of the same groups, and once a group was made or removed.
use Rattle.std.proofs.Common.{◌≡◌, ℕ, ◌+◌, ◌-◌, ◌^◌, ◌<◌, ◌≤◌, inl, inr, Bool, true, false, cond, Some, None, IsSome, List, [], ◌∷◌, length, get_or, count_by, sym, ap, ◌∙◌, subst, arith}
use Rattle.std.proofs.Math.Nat.{min-eq_left}
use Rattle.std.specs.FinMap as fin
use Rattle.flat_model.specs.Path.{Path, parent, path_cmp, at_or_below, strictly_below}
use Rattle.flat_model.proofs.MapValues.{keys-map_values}
use Rattle.group_tree.specs.Groups.{Groups, IsClosed, descendant_count, only_root}
use Rattle.group_tree.specs.declared.attr.Attr.{Attr}
use Rattle.pids_charge.specs.declared.above.Change.TheVariants.{Raise, Lower}
use Rattle.pids_charge.specs.GroupRows.{ChangesCounts, HasCounts, HasRows, stepped, in_row, with_rows}
use Rattle.pids_charge.specs.Lists.{row_at}
use Rattle.pids_charge.proofs.BelowCounts.{below_few, below_left, below_made, below_own, not_above, not_itself, strictly_above}
use Rattle.pids_charge.proofs.Changes.{which}
use Rattle.pids_charge.proofs.InRows.{there_too, tree_has}
use Rattle.pids_charge.proofs.StartState.{alone}

-- ---- rows of the same groups

module _ (tree : Groups) (a b : List Attr) (h : HasRows tree a) (k : HasRows tree b) (belows after : List ℕ) (counts : HasCounts (with_rows tree a) belows)
    (reads : (q : Path) → IsSome (fin.get (with_rows tree a) q) → get_or after (row_at (with_rows tree a) q) 0 ≡ get_or belows (row_at (with_rows tree a) q) 0) where
  same_counts : (q : Path) → descendant_count (with_rows tree a) q ≡ descendant_count (with_rows tree b) q
  same_counts q =
      let keys : fin.keys (with_rows tree a) ≡ fin.keys (with_rows tree b) = keys-map_values (in_row a) tree ∙ sym (keys-map_values (in_row b) tree) in
      ap (λ (ps : List Path). count_by (λ r. strictly_below r q) ps) keys

  pub counts_stay : HasCounts (with_rows tree b) after
  counts_stay = λ q i.
      let t = tree_has tree b q i in
      let j = there_too tree a q t.attr t.there in
      let same : row_at (with_rows tree b) q ≡ row_at (with_rows tree a) q = sym (k.each q t.attr t.there).number ∙ (h.each q t.attr t.there).number in
      ap (λ n. get_or after n 0) same ∙ reads q j ∙ counts q j ∙ same_counts q

-- the root alone
root_none : (root : Attr) → descendant_count (only_root root) [] ≡ 0
root_none root =
    let made = below_made fin.empty [] root [] (fin.get-empty {X = Attr} path_cmp []) in
    let few = below_few fin.empty [] in
    let none = fin.len-empty path_cmp Attr in
    let no : ◌≡◌ {A = ℕ} (cond (strictly_below [] []) 1 0) 0 = ap (λ b. cond b 1 0) (not_itself []) in
    omega (arith, made, few, none, no)

pub root_counts : (root : Attr) → HasCounts (only_root root) (0 ∷ [])
root_counts root = λ q i.
    let is = alone root q i in
    ap (λ (r : Path). get_or (0 ∷ []) (row_at (only_root root) r) 0) is
    ∙ sym (root_none root) ∙ ap (descendant_count (only_root root)) (sym is)

-- ---- a group is made, or removed: m are the groups then, and the rows of those above its path p have changed their counts

module _ (s m : Groups) (p : Path) (named : 0 < length p) (belows after : List ℕ) where
  pub made_counts : (x : Attr) → fin.len s < 2 ^ 16 → IsClosed s → fin.get s p ≡ None → m ≡ fin.insert s p x
      → ((q : Path) → IsSome (fin.get s q) → get_or belows (row_at m q) 0 ≡ descendant_count s q) → get_or belows (row_at m p) 0 ≡ 0
      → ChangesCounts (stepped (2 ^ 32 - 1) Raise) m (parent p) belows after → HasCounts m after
  made_counts x few whole absent is others own changes = λ q i. changes q i ∙ elim (which s p x q) [
    | inl w ↦
        let at : at_or_below (parent p) q ≡ false = ap (at_or_below (parent p)) w.0 ∙ not_above p named in
        ap (λ b. cond b (stepped (2 ^ 32 - 1) Raise (get_or belows (row_at m q) 0)) (get_or belows (row_at m q) 0)) at
        ∙ ap (λ (r : Path). get_or belows (row_at m r) 0) w.0 ∙ own ∙ sym (below_own s p x whole absent) ∙ ap (descendant_count (fin.insert s p x)) (sym w.0)
        ∙ ap (λ (n : Groups). descendant_count n q) (sym is)
    | inr w ↦
        let old : IsSome (fin.get s q) = subst IsSome (ap (λ (n : Groups). fin.get n q) is ∙ w.1) i in
        let more = below_made s p x q absent in
        let all = below_few s q in
        ap (λ n. cond (at_or_below (parent p) q) (stepped (2 ^ 32 - 1) Raise n) n) (others q old)
        ∙ ap (λ b. cond b (stepped (2 ^ 32 - 1) Raise (descendant_count s q)) (descendant_count s q)) (sym (strictly_above p q named w.0))
        ∙ one_more (strictly_below p q) (descendant_count s q) (omega (arith, all, few)) ∙ sym more ∙ ap (λ (n : Groups). descendant_count n q) (sym is)
  ]
    where
      one_more : (b : Bool) (n : ℕ) → n < 2 ^ 16 → cond b (stepped (2 ^ 32 - 1) Raise n) n ≡ cond b 1 0 + n
      one_more true n l = let small : n + 1 ≤ 2 ^ 32 - 1 = omega (arith, l) in let one : n + 1 ≡ 1 + n = omega arith in min-eq_left small ∙ one
      one_more false n l = omega arith

  pub left_counts : (x : Attr) → fin.get s p ≡ Some x → m ≡ fin.remove s p → fin.get m p ≡ None
      → ((q : Path) → IsSome (fin.get m q) → get_or belows (row_at m q) 0 ≡ descendant_count s q)
      → ChangesCounts (stepped (2 ^ 32 - 1) Lower) m (parent p) belows after → HasCounts m after
  left_counts x here is gone others changes = λ q i.
      let apart : q ≡ p → ⊥ = λ e. let none : IsSome {T = Attr} None = subst IsSome (ap (fin.get m) e ∙ gone) i in cc in
      let less : descendant_count s q ≡ cond (strictly_below p q) 1 0 + descendant_count m q =
      below_left s p x q here (ap (λ (n : Groups). fin.get n p) (sym is) ∙ gone) ∙ ap (λ (n : Groups). cond (strictly_below p q) 1 0 + descendant_count n q) (sym is) in
      changes q i ∙ ap (λ n. cond (at_or_below (parent p) q) (stepped (2 ^ 32 - 1) Lower n) n) (others q i ∙ less)
      ∙ ap (λ b. cond b (stepped (2 ^ 32 - 1) Lower (cond (strictly_below p q) 1 0 + descendant_count m q)) (cond (strictly_below p q) 1 0 + descendant_count m q)) (sym (strictly_above p q named apart))
      ∙ one_less (strictly_below p q) (descendant_count m q)
    where
      one_less : (b : Bool) (n : ℕ) → cond b (stepped (2 ^ 32 - 1) Lower (cond b 1 0 + n)) (cond b 1 0 + n) ≡ n
      one_less true n = omega arith
      one_less false n = omega arith
