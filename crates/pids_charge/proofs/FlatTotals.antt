-- Groups changed in the tree, as the flat state changes them: event totals, and peaks.
use Rattle.std.proofs.Common.{◌≡◌, ℕ, ◌+◌, ◌-◌, ◌^◌, ◌<◌, Bool, true, false, cond, Option, Some, None, option_map, is_some, refl, sym, ap, ◌∙◌, arith}
use Rattle.std.specs.Prelude.{min}
use Rattle.std.specs.FinMap as fin
use Rattle.std.specs.Ordering.{nat_cmp}
use Rattle.flat_model.specs.Path.{Path, same_path}
use Rattle.flat_model.specs.State as flat
use Rattle.flat_model.specs.Step.{at_each, count_up, count_down, counts_for}
use Rattle.flat_model.specs.Mapped.{map_values}
use Rattle.flat_model.proofs.MapValues.{get-map_values}
use Rattle.flat_model.proofs.Maps.{get-each}
use Rattle.flat_model.proofs.PathLaws.{path_cmp-IsTotalOrder, path_cmp-IsAntisymmetric}
use Rattle.group_tree.specs.Flat.{group_of}
use Rattle.group_tree.specs.Groups.{Groups, slot_of, IsClosed}
use Rattle.group_tree.specs.declared.attr.Attr.{Attr}
use Rattle.pids_charge.specs.GroupRows.{stepped}
use Rattle.pids_charge.specs.declared.above.Change.TheVariants.{Raise}
use Rattle.pids_charge.specs.Events.{counted_by, CountsRefusals, flat_of}
use Rattle.pids_charge.specs.Recount.{SameSlots}
use Rattle.pids_charge.proofs.EachChanged.{len-changes, some_stays}

one_up : (b : Bool) (n : ℕ) → cond b (n + 1) n ≡ n + cond b 1 0
one_up true n = refl
one_up false n = omega arith

one_down : (b : Bool) (n : ℕ) → cond b (n - 1) n ≡ n - cond b 1 0
one_down true n = refl
one_down false n = omega arith

pub up_each : (a q : Path) (attr : Attr) → group_of (counted_by (λ n. n + 1) a q attr) ≡ count_up a q (group_of attr)
up_each a q attr = λ i. record (group_of attr) { local = one_up (same_path q a) attr.local i; total = one_up (counts_for a q) attr.total i }

pub down_each : (a q : Path) (attr : Attr) → group_of (counted_by (λ n. n - 1) a q attr) ≡ count_down a q (group_of attr)
down_each a q attr = λ i. record (group_of attr) { local = one_down (same_path q a) attr.local i; total = one_down (counts_for a q) attr.total i }

-- where no total is the greatest, none stays there
pub raised : (old new : Groups) (a : Path)
    → ((q : Path) (attr : Attr) → fin.get old q ≡ Some attr → (attr.local < 2 ^ 64 - 1) × (attr.total < 2 ^ 64 - 1)) → CountsRefusals (stepped (2 ^ 64 - 1) Raise) old new a → CountsRefusals (λ n. n + 1) old new a
raised old new a room counts q = counts q ∙ each (fin.get old q) (room q)
  where
    below : (n : ℕ) → n < 2 ^ 64 - 1 → min (n + 1) (2 ^ 64 - 1) ≡ n + 1
    below n h = omega arith

    each : (o : Option Attr) → ((x : Attr) → o ≡ Some x → (x.local < 2 ^ 64 - 1) × (x.total < 2 ^ 64 - 1)) → option_map (counted_by (stepped (2 ^ 64 - 1) Raise) a q) o ≡ option_map (counted_by (λ n. n + 1) a q) o
    each None h = refl
    each (Some x) h = λ i. Some (record x { local = cond (same_path q a) (below x.local (h x refl).0 i) x.local; total = cond (counts_for a q) (below x.total (h x refl).1 i) x.total })

-- the groups of the tree changed one by one, as f changes them there and F in the flat state
module _ (f : Path → Attr → Attr) (old new : Groups) (changes : (q : Path) → fin.get new q ≡ option_map (f q) (fin.get old q)) where
  pub flat_changed : (F : Path → flat.Attr → flat.Attr)
      → ((q : Path) (attr : Attr) → fin.get old q ≡ Some attr → group_of (f q attr) ≡ F q (group_of attr))
      → (home : fin.FinMap nat_cmp Path) → flat_of new home ≡ at_each F (flat_of old home)
  flat_changed F each home = λ i. record { groups = groups i; home = home }
    where
      as_flat : (q : Path) (o : Option Attr) → ((attr : Attr) → o ≡ Some attr → group_of (f q attr) ≡ F q (group_of attr))
          → option_map group_of (option_map (f q) o) ≡ option_map (F q) (option_map group_of o)
      as_flat q None h = refl
      as_flat q (Some attr) h = ap Some (h attr refl)

      groups : map_values group_of new ≡ (at_each F (flat_of old home)).groups
      groups = fin.same_map path_cmp-IsTotalOrder path_cmp-IsAntisymmetric _ _ (λ q.
          get-map_values group_of new q ∙ ap (option_map group_of) (changes q) ∙ as_flat q (fin.get old q) (each q)
          ∙ ap (option_map (F q)) (sym (get-map_values group_of old q))
          ∙ sym (get-each path_cmp-IsTotalOrder path_cmp-IsAntisymmetric F (map_values group_of old) q))

  pub slots_changed : ((q : Path) (attr : Attr) → (f q attr).slot ≡ attr.slot) → IsClosed new → SameSlots old new
  slots_changed stays closed = record {
    closed = closed;
    size = len-changes f old new changes;
    there = λ q. ap is_some (changes q) ∙ some_stays (f q) (fin.get old q);
    slots = λ q. ap slot_of (changes q) ∙ slot_stays q (fin.get old q);
  }
    where
      slot_stays : (q : Path) (o : Option Attr) → slot_of (option_map (f q) o) ≡ slot_of o
      slot_stays q None = refl
      slot_stays q (Some attr) = stays q attr

module _ (g : ℕ → ℕ) (old new : Groups) (a : Path) (counts : CountsRefusals g old new a) where
  pub flat-counts : (F : Path → Path → flat.Attr → flat.Attr)
      → ((a q : Path) (attr : Attr) → group_of (counted_by g a q attr) ≡ F a q (group_of attr)) → (home : fin.FinMap nat_cmp Path)
      → flat_of new home ≡ at_each (F a) (flat_of old home)
  flat-counts F each = flat_changed (counted_by g a) old new counts (F a) (λ q attr e. each a q attr)

  pub same_slots : IsClosed new → SameSlots old new
  same_slots = slots_changed (counted_by g a) old new counts (λ q attr. refl)
