-- How the charges of a meter follow from the groups and the processes.
use Rattle.std.specs.Prelude.{ℕ, zero, suc, ◌+◌, ◌^◌, ◌<◌, ◌≤◌, ◌≡◌, eqb, List, length, IsSome, is_some, map, take, count_by}
use Rattle.std.specs.Map.{values_of, keys_of}
use Rattle.std.specs.List.{sum_by, All}
use Rattle.std.specs.List.Sorted.{IsStrictlySortedBy}
use Rattle.std.specs.Ordering.{nat_cmp}
use Rattle.std.specs.FinMap as fin
use Rattle.flat_model.specs.Path.{Path}
use Rattle.flat_model.specs.CommandText.{IsPid}
use Rattle.flat_model.specs.State.{State}
use Rattle.group_tree.specs.Groups.{Groups, IsClosed}
use Rattle.group_tree.specs.Flat.{group_of}
use Rattle.flat_model.specs.Mapped.{map_values}
use Rattle.snzi_tokens.specs.Listed.{one_at}
use Rattle.pids_charge.specs.Content.{Content}
use Rattle.pids_charge.specs.Lists.{Row, slot_at, row_at}
use Rattle.process_table.specs.declared.process.Process.{Process}

-- one charge at the leaf for the group of each prefix of 1 to n names
abbrev pub chain_at : Groups → Path → ℕ → ℕ → Content
chain_at tree p zero leaf s j = 0
chain_at tree p (suc n) leaf s j = chain_at tree p n leaf s j + one_at (slot_at tree (take (suc n) p)) leaf s j

-- the charges of a process at this leaf in the group
abbrev pub charges_at : Groups → Path → ℕ → Content
charges_at tree p leaf = chain_at tree p (length p) leaf

-- each group other than the root has a slot of the meter
abbrev pub SlotsBelow : ℕ → Groups → Type 0
SlotsBelow slots tree = (p : Path) → 0 < length p → IsSome (fin.get tree p) → slot_at tree p < slots

-- no two groups other than the root have the same slot
abbrev pub SlotsApart : Groups → Type 0
SlotsApart tree = (p q : Path) → 0 < length p → 0 < length q → IsSome (fin.get tree p) → IsSome (fin.get tree q) → slot_at tree p ≡ slot_at tree q → p ≡ q

-- the content of a meter with the charges of one more process
abbrev pub with_charges : Groups → Path → ℕ → Content → Content
with_charges tree p leaf content s j = content s j + charges_at tree p leaf s j

-- each slot below the number is free, once
pub record AreAllFree (slots : ℕ) (free : List ℕ) : Type 0 where
  pub once : (s : ℕ) → count_by (eqb s) free ≤ 1
  pub in_range : (s : ℕ) → slots ≤ s → count_by (eqb s) free ≡ 0
  pub many : length free ≡ slots

-- no two groups other than the root have the same slot, and the other slots are free, each once
pub record HasSlots (slots : ℕ) (tree : Groups) (free : List ℕ) : Type 0 where
  pub few : slots < 2 ^ 16
  pub closed : IsClosed tree
  pub shallow : (p : Path) → IsSome (fin.get tree p) → length p ≤ 32
  pub below : SlotsBelow slots tree
  pub apart : SlotsApart tree
  pub once : (s : ℕ) → count_by (eqb s) free ≤ 1
  pub in_range : (s : ℕ) → slots ≤ s → count_by (eqb s) free ≡ 0
  pub unused : (p : Path) → 0 < length p → IsSome (fin.get tree p) → count_by (eqb (slot_at tree p)) free ≡ 0
  pub whole : fin.len tree + length free ≡ slots + 1

-- the same groups with the same slots
pub record SameSlots (old new : Groups) : Type 0 where
  pub closed : IsClosed new
  pub size : fin.len new ≡ fin.len old
  pub there : (p : Path) → is_some (fin.get new p) ≡ is_some (fin.get old p)
  pub slots : (p : Path) → slot_at new p ≡ slot_at old p

module _ {A : Type 0} where
  abbrev pub charges_of : Groups → Process A → Content
  charges_of tree p = charges_at tree p.home p.leaf

  -- the flat state of the tree and the processes
  abbrev pub state_of : Groups → List (Row A) → State
  state_of tree es = record { groups = map_values group_of tree; home = fin.from_sorted (map (λ e. (e.0, e.1.home)) es) }

  -- the process is in a group of the tree, and in the row of that group
  pub record IsPlaced (leaves : ℕ) (tree : Groups) (p : Process A) : Type 0 where
    pub home : IsSome (fin.get tree p.home)
    pub row : p.row ≡ row_at tree p.home
    pub leaf_below : p.leaf < leaves

  -- each process is in a group, and the meter holds each process's charges
  pub record Recounted (leaves : ℕ) (tree : Groups) (es : List (Row A)) (content : Content) (held : ℕ) : Type 0 where
    pub ordered : IsStrictlySortedBy nat_cmp (keys_of es)
    pub pids : All IsPid (keys_of es)
    pub placed : All (λ p. IsPlaced leaves tree p) (values_of es)
    pub counted : (s j : ℕ) → content s j ≡ sum_by (λ p. charges_of tree p s j) (values_of es)
    pub held_is : held ≡ sum_by (λ p. length p.home) (values_of es)

  -- groups and slots agree, and so do processes and charges
  pub record IsWhole (slots leaves : ℕ) (tree : Groups) (es : List (Row A)) (free : List ℕ) (capacity : ℕ) (content : Content) (held : ℕ) : Type 0 where
    pub has_slots : HasSlots slots tree free
    pub room : slots ≤ capacity
    pub recounted : Recounted leaves tree es content held
