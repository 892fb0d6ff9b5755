-- What a meter holds, and what is left of it after a call.
use Rattle.std.proofs.Common.{◌≡◌, ℕ, zero, suc, ◌+◌, ◌*◌, ◌<◌, ◌≤◌, ◌^◌, true, not, Some, None, List, [], ◌∷◌, filter, length, take, sum_by, IsSome, refl, sym, ap, ◌∙◌, subst, arith, rules}
use Rattle.std.specs.Ordering.{nat_cmp}
use Rattle.std.specs.List.{All}
use Rattle.std.specs.List.Sorted.{IsStrictlySortedBy}
use Rattle.std.specs.Map.{values_of, keys_of, lookup, remove_entry}
use Rattle.std.specs.BTreeMap.{is_at, insert_entry}
use Rattle.std.specs.FinMap as fin
use Rattle.std.proofs.lemmas.List.Elements.{All-weaker, All-head, All-tail, All-cons}
use Rattle.std.proofs.lemmas.List.Sums.{sum_by-le}
use Rattle.std.proofs.lemmas.Map.Views.{length-le_from_below, All-values-insert_entry, All-keys-insert_entry, All-map-remove_entry}
use Rattle.std.proofs.lemmas.Map.Entries.{length-keys_of, length-values_of, sum_by-insert_entry, sum_by-remove_entry}
use Rattle.std.specs.Cmp.{nat_cmp_total}
use Rattle.std.proofs.Math.Seq.{take-length}
use Rattle.flat_model.specs.Path.{Path, at_or_below}
use Rattle.flat_model.specs.CommandText.{IsPid}
use Rattle.flat_model.proofs.PathLaws.{take_above}
use Rattle.group_tree.specs.Groups.{Groups, slot_of}
use Rattle.pids_charge.specs.Content.{Content}
use Rattle.pids_charge.specs.Lists.{Row, inside, is_inside, with_lost, placed_at}
use Rattle.pids_charge.specs.Recount.{Recounted, IsPlaced, charges_of, charges_at, chain_at}
use Rattle.pids_charge.specs.declared.lost.Lost.{Lost}
use Rattle.process_table.specs.declared.process.Process.{Process}
use Rattle.pids_charge.proofs.Entries.{to_sorted, to_ascending, kept_values, kept_keys, sum_by-same}
use Rattle.pids_charge.proofs.KillLists.{split-sum}
use Rattle.pids_charge.proofs.RowsAt.{row_at_same, found_value}
use Rattle.pids_charge.proofs.ListedProcesses.{AreNew, whole_sorted, whole_sum, whole_values, whole_keys}

pub all_both : {X : Type 0} (P Q : X → Type 0) (xs : List X) → All P xs → All Q xs → All (λ x. P x × Q x) xs
all_both P Q [] h i = search rules
all_both P Q (x ∷ xs) h i = All-cons (λ x. P x × Q x) x xs (All-head P x xs h, All-head Q x xs i) (all_both P Q xs (All-tail P x xs h) (All-tail Q x xs i))

chain_same : (tree tree2 : Groups) (p : Path) (leaf s j k : ℕ) → ((n : ℕ) → fin.get tree2 (take n p) ≡ fin.get tree (take n p)) → chain_at tree2 p k leaf s j ≡ chain_at tree p k leaf s j
chain_same tree tree2 p leaf s j zero same = refl
chain_same tree tree2 p leaf s j (suc k) same = rw (chain_same tree tree2 p leaf s j k same, ap slot_of (same (suc k))) refl

module _ {A : Type 0} (leaves : ℕ) (tree : Groups) (es : List (Row A)) (content : Content) (held : ℕ) (d : Recounted leaves tree es content held) where
  few : length (values_of es) ≤ 2 ^ 22
  few =
      let small = All-weaker IsPid (λ k. k < 2 ^ 22) (λ k h. omega (arith, h.1)) (keys_of es) d.pids in
      omega (arith, length-values_of es, length-keys_of es, length-le_from_below (2 ^ 22) (keys_of es) d.ordered small)

  pub held_small : ((p : Path) → IsSome (fin.get tree p) → length p ≤ 32) → held ≤ 2 ^ 22 * 32
  held_small shallow =
      let all = sum_by-le (λ p. length p.home) 32 (values_of es) (All-weaker (λ p. IsPlaced leaves tree p) (λ p. length p.home ≤ 32) (λ p h. shallow p.home h.home) (values_of es) d.placed) in
      omega (arith, few, d.held_is, all)

  -- the charges of those inside are there
  pub inside_there : (g : Path) (s j : ℕ) → sum_by (λ p. charges_of tree p s j) (values_of (inside g es)) ≤ content s j
  inside_there g s j = omega (arith, d.counted s j, split-sum (λ p. charges_of tree p s j) g es)

  -- the charges of a process are there
  pub one_there : (k : ℕ) (x : Process A) → lookup (is_at (nat_cmp k)) es ≡ Some x → (s j : ℕ) → charges_of tree x s j ≤ content s j
  one_there k x e s j = let one = rw e at (sum_by-remove_entry (λ p. charges_of tree p s j) (is_at (nat_cmp k)) es) in omega (arith, d.counted s j, one)

  -- a process that is found is placed
  pub found_placed : (k : ℕ) (x : Process A) → lookup (is_at (nat_cmp k)) es ≡ Some x → IsPlaced leaves tree x
  found_placed k x e = found_value (λ p. IsPlaced leaves tree p) (is_at (nat_cmp k)) es x d.placed e

  -- another process in the place of one, with its charges
  pub moved : (k : ℕ) (x y : Process A) (fs : List (Row A)) (content2 : Content) (held2 : ℕ) → lookup (is_at (nat_cmp k)) es ≡ Some x
      → IsPid k → fs ≡ insert_entry nat_cmp es k y → IsStrictlySortedBy nat_cmp (keys_of fs) → IsPlaced leaves tree y
      → ((s j : ℕ) → content2 s j + charges_of tree x s j ≡ content s j + charges_of tree y s j) → held2 + length x.home ≡ held + length y.home
      → Recounted leaves tree fs content2 held2
  moved k x y fs content2 held2 there pid e ordered fits more more_held =
      let sum = λ (f : Process A → ℕ). rw there at (sum_by-insert_entry f nat_cmp_total es k y d.ordered) in
      record {
        ordered = ordered;
        pids = rw e (All-keys-insert_entry nat_cmp k y IsPid es d.pids pid);
        placed = rw e (All-values-insert_entry nat_cmp k y (λ p. IsPlaced leaves tree p) es d.placed fits);
        counted = λ s j. rw e (omega (arith, more s j, d.counted s j, sum (λ p. charges_of tree p s j)));
        held_is = rw e (omega (arith, more_held, d.held_is, sum (λ p. length p.home)));
      }

  -- a meter that holds the same
  pub same_meter : (content2 : Content) (held2 : ℕ) → content2 ≡ content → held2 ≡ held → Recounted leaves tree es content2 held2
  same_meter content2 held2 e f = record {
    ordered = d.ordered;
    pids = d.pids;
    placed = d.placed;
    counted = λ s j. ap (λ (k : Content). k s j) e ∙ d.counted s j;
    held_is = f ∙ d.held_is;
  }

  -- a tree that is the same along the path of each process
  pub regrouped : (tree2 : Groups) → All (λ p. (n : ℕ) → fin.get tree2 (take n p.home) ≡ fin.get tree (take n p.home)) (values_of es) → Recounted leaves tree2 es content held
  regrouped tree2 same =
      let both = all_both (λ p. IsPlaced leaves tree p) (λ p. (n : ℕ) → fin.get tree2 (take n p.home) ≡ fin.get tree (take n p.home)) (values_of es) d.placed same in
      record {
        ordered = d.ordered;
        pids = d.pids;
        placed = All-weaker (λ p. IsPlaced leaves tree p × ((n : ℕ) → fin.get tree2 (take n p.home) ≡ fin.get tree (take n p.home))) (λ p. IsPlaced leaves tree2 p)
            (λ p h.
            let here = ap (fin.get tree2) (sym (take-length p.home)) ∙ h.1 (length p.home) ∙ ap (fin.get tree) (take-length p.home) in
            record { home = subst IsSome (sym here) h.0.home; row = h.0.row ∙ row_at_same tree tree2 p.home (sym (ap slot_of here)); leaf_below = h.0.leaf_below }) (values_of es) both;
        counted = λ s j. d.counted s j ∙ sum_by-same (λ p. charges_of tree p s j) (λ p. charges_of tree2 p s j) (values_of es)
            (All-weaker (λ p. (n : ℕ) → fin.get tree2 (take n p.home) ≡ fin.get tree (take n p.home)) (λ p. charges_of tree p s j
            ≡ charges_of tree2 p s j) (λ p h. sym (chain_same tree tree2 p.home p.leaf s j (length p.home) h)) (values_of es) same);
        held_is = d.held_is;
      }

  -- one comes with its charges
  pub added : (k : ℕ) (x : Process A) (fs : List (Row A)) (content2 : Content) (held2 : ℕ) → lookup (is_at (nat_cmp k)) es ≡ None → IsPid k
      → fs ≡ insert_entry nat_cmp es k x → IsStrictlySortedBy nat_cmp (keys_of fs) → IsPlaced leaves tree x
      → ((s j : ℕ) → content2 s j ≡ content s j + charges_of tree x s j) → held2 ≡ held + length x.home
      → Recounted leaves tree fs content2 held2
  added k x fs content2 held2 new pid e ordered fits more more_held =
      let sum = λ (f : Process A → ℕ). rw new at (sum_by-insert_entry f nat_cmp_total es k x d.ordered) in
      record {
        ordered = ordered;
        pids = rw e (All-keys-insert_entry nat_cmp k x IsPid es d.pids pid);
        placed = rw e (All-values-insert_entry nat_cmp k x (λ p. IsPlaced leaves tree p) es d.placed fits);
        counted = λ s j. rw e (omega (arith, more s j, d.counted s j, sum (λ p. charges_of tree p s j)));
        held_is = rw e (omega (arith, more_held, d.held_is, sum (λ p. length p.home)));
      }

  -- one leaves with its charges
  pub taken : (k : ℕ) (x : Process A) (fs : List (Row A)) (content2 : Content) (held2 : ℕ) → lookup (is_at (nat_cmp k)) es ≡ Some x
      → fs ≡ remove_entry (is_at (nat_cmp k)) es → IsStrictlySortedBy nat_cmp (keys_of fs)
      → ((s j : ℕ) → content2 s j + charges_of tree x s j ≡ content s j) → held2 + length x.home ≡ held
      → Recounted leaves tree fs content2 held2
  taken k x fs content2 held2 there e ordered less less_held =
      let sum = λ (f : Process A → ℕ). rw there at (sum_by-remove_entry f (is_at (nat_cmp k)) es) in
      record {
        ordered = ordered;
        pids = rw e (All-map-remove_entry (is_at (nat_cmp k)) (λ e. e.0) IsPid es d.pids);
        placed = rw e (All-map-remove_entry (is_at (nat_cmp k)) (λ e. e.1) (λ p. IsPlaced leaves tree p) es d.placed);
        counted = λ s j. rw e (omega (arith, less s j, d.counted s j, sum (λ p. charges_of tree p s j)));
        held_is = rw e (omega (arith, less_held, d.held_is, sum (λ p. length p.home)));
      }

  -- those inside leave with their charges
  pub killed : (g : Path) (fs : List (Row A)) (content2 : Content) (held2 : ℕ) → fs ≡ filter (λ e. not (is_inside g e)) es → IsStrictlySortedBy nat_cmp (keys_of fs)
      → ((s j : ℕ) → content2 s j + sum_by (λ p. charges_of tree p s j) (values_of (inside g es)) ≡ content s j)
      → held2 + sum_by (λ p. length p.home) (values_of (inside g es)) ≡ held
      → Recounted leaves tree fs content2 held2
  killed g fs content2 held2 e ordered less less_held =
      record {
        ordered = ordered;
        pids = rw e (kept_keys IsPid (λ e. not (is_inside g e)) es d.pids);
        placed = rw e (kept_values (λ p. IsPlaced leaves tree p) (λ e. not (is_inside g e)) es d.placed);
        counted = λ s j. rw e (omega (arith, less s j, d.counted s j, split-sum (λ p. charges_of tree p s j) g es));
        held_is = rw e (omega (arith, less_held, d.held_is, split-sum (λ p. length p.home) g es));
      }

  -- a new group changes the charges of nobody
  pub grown_tree : (tree2 : Groups) → ((q : Path) → IsSome (fin.get tree q) → fin.get tree2 q ≡ fin.get tree q)
      → ((p q : Path) → IsSome (fin.get tree p) → at_or_below p q ≡ true → IsSome (fin.get tree q)) → Recounted leaves tree2 es content held
  grown_tree tree2 same prefixes = record {
    ordered = d.ordered;
    pids = d.pids;
    placed = All-weaker (λ p. IsPlaced leaves tree p) (λ p. IsPlaced leaves tree2 p) (λ p h. record {
      home = subst IsSome (sym (same p.home h.home)) h.home;
      row = h.row ∙ row_at_same tree tree2 p.home (sym (ap slot_of (same p.home h.home)));
      leaf_below = h.leaf_below;
    }) (values_of es) d.placed;
    counted = λ s j. d.counted s j
        ∙ sum_by-same (λ p. charges_of tree p s j) (λ p. charges_of tree2 p s j) (values_of es)
        (All-weaker (λ p. IsPlaced leaves tree p) (λ p. charges_of tree p s j
        ≡ charges_of tree2 p s j)
        (λ p h. sym (chain_same tree tree2 p.home p.leaf s j (length p.home)
        (λ n. same (take n p.home) (prefixes p.home (take n p.home) h.home (take_above n p.home))))) (values_of es) d.placed);
    held_is = d.held_is;
  }

  -- listed processes with their charges
  pub placed : {B : Type 0} (leaf : ℕ) (ls : List (Lost B)) (content2 : Content) (held2 : ℕ) → leaf < leaves
      → AreNew tree leaf es (to_sorted es d.ordered) ls → All (λ l. IsSome (fin.get tree l.path)) ls → All (λ l. IsPid l.pid) ls
      → ((s j : ℕ) → content2 s j ≡ content s j + sum_by (λ l. charges_at tree l.path leaf s j) ls)
      → held2 ≡ held + sum_by (λ l. length l.path) ls
      → Recounted leaves tree (with_lost tree leaf ls es) content2 held2
  placed leaf ls content2 held2 lt new homes pids more more_held =
      let sorted = to_sorted es d.ordered in
      record {
        ordered = to_ascending (with_lost tree leaf ls es) (whole_sorted tree leaf es sorted ls);
        pids = whole_keys tree leaf es sorted IsPid ls d.pids pids;
        placed = whole_values tree leaf es sorted (λ p. IsPlaced leaves tree p) ls d.placed
            (All-weaker (λ l. IsSome (fin.get tree l.path)) (λ l. IsPlaced {A = A} leaves tree (placed_at tree leaf l))
            (λ l h. record { home = h; row = refl; leaf_below = lt }) ls homes);
        counted = λ s j. omega (arith, more s j, d.counted s j, whole_sum tree leaf es sorted (λ p. charges_of tree p s j) ls new);
        held_is = omega (arith, more_held, d.held_is, whole_sum tree leaf es sorted (λ p. length p.home) ls new);
      }
