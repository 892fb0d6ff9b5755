-- A process taken out of the table.
use Rattle.std.proofs.Common.{◌≡◌, ℕ, Bool, true, false, cond, Option, Some, None, List, option_map, refl, sym, ap, ◌∙◌}
use Rattle.std.specs.Ordering.{nat_cmp, eq_by_cmp}
use Rattle.std.specs.Cmp.{nat_cmp_total, eq_by_cmp_equiv}
use Rattle.std.specs.List.Sorted.{IsStrictlySortedBy}
use Rattle.std.specs.Map.{keys_of, lookup, remove_entry}
use Rattle.std.proofs.lemmas.Map.{lookup-remove_entry}
use Rattle.std.proofs.lemmas.Map.Keys.{IsDistinct-from_sorted}
use Rattle.std.specs.BTreeMap.{is_at}
use Rattle.std.specs.FinMap as fin
use Rattle.flat_model.proofs.Maps.{key_of}
use Rattle.flat_model.specs.State.{State}
use Rattle.flat_model.specs.Counts.{has_process}
use Rattle.flat_model.specs.Command.{Exit, NoProcess}
use Rattle.flat_model.specs.Step.{refusal, after}
use Rattle.group_tree.specs.Groups.{Groups}
use Rattle.pids_charge.specs.Lists.{Row}
use Rattle.pids_charge.specs.Recount.{state_of}
use Rattle.process_table.specs.declared.process.Process.{Process}
use Rattle.pids_charge.proofs.Entries.{home_rows, to_sorted, find_home}

pub exit_no_process : (slots : ℕ) (s : State) (pid : ℕ) → has_process s pid ≡ false → refusal slots s (Exit pid) ≡ Some (NoProcess pid)
exit_no_process slots s pid h = rw h refl

pub exit_allowed : (slots : ℕ) (s : State) (pid : ℕ) → has_process s pid ≡ true → refusal slots s (Exit pid) ≡ None
exit_allowed slots s pid h = rw h refl

homes_of : {A : Type 0} (b : Bool) (o : Option (Process A)) → option_map (λ p. p.home) (cond b None o) ≡ cond b None (option_map (λ p. p.home) o)
homes_of true o = refl
homes_of false o = refl

module _ {A : Type 0} (k : ℕ) (es fs : List (Row A)) (sorted : IsStrictlySortedBy nat_cmp (keys_of es))
    (ordered : IsStrictlySortedBy nat_cmp (keys_of fs)) (less : fs ≡ remove_entry (is_at (nat_cmp k)) es) where
  gone : (q : ℕ) → lookup (is_at (nat_cmp q)) fs ≡ cond (is_at (nat_cmp k) q) None (lookup (is_at (nat_cmp q)) es)
  gone q =
      ap (lookup (is_at (nat_cmp q))) less
      ∙ lookup-remove_entry (eq_by_cmp_equiv nat_cmp_total) (is_at (nat_cmp k))
      (λ x y t. ap (λ z. eq_by_cmp nat_cmp z y) (key_of fin.nat_cmp-IsAntisymmetric k x t)) q es
      (IsDistinct-from_sorted nat_cmp (keys_of es) sorted)

  took_home : fin.from_sorted {R = nat_cmp} (home_rows fs) ≡ fin.remove (fin.from_sorted (home_rows es)) k
  took_home = fin.same_map nat_cmp_total fin.nat_cmp-IsAntisymmetric _ _ (λ q.
      fin.get-from_sorted nat_cmp (home_rows fs) q (to_sorted fs ordered) ∙ find_home q fs
      ∙ ap (option_map (λ p. p.home)) (gone q) ∙ homes_of (is_at (nat_cmp k) q) (lookup (is_at (nat_cmp q)) es)
      ∙ ap (cond (is_at (nat_cmp k) q) None) (sym (fin.get-from_sorted nat_cmp (home_rows es) q (to_sorted es sorted) ∙ find_home q es))
      ∙ ap (λ b. cond b None (fin.get (fin.from_sorted {R = nat_cmp} (home_rows es)) q)) ((eq_by_cmp_equiv nat_cmp_total).symm k q)
      ∙ sym (fin.get-remove nat_cmp_total (fin.from_sorted (home_rows es)) k q))

  pub exited-is : (tree : Groups) (s : State) → state_of tree es ≡ s → state_of tree fs ≡ after s (Exit k)
  exited-is tree s v = (λ i. record { groups = (state_of tree es).groups; home = took_home i }) ∙ ap (λ (t : State). after t (Exit k)) v
