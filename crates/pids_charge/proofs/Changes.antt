-- A group with other attributes and the slot that it had.
use Rattle.std.proofs.Common.{◌≡◌, ℕ, zero, suc, ◌+◌, ◌⊎◌, inl, inr, true, false, cond, eqb, Option, Some, None, List, length, take, count_by, IsSome, is_some, refl, sym, ap, ◌∙◌, arith}
use Rattle.std.specs.FinMap as fin
use Rattle.std.specs.Map.{values_of}
use Rattle.std.proofs.lemmas.List.Elements.{All-weaker}
use Rattle.flat_model.specs.Path.{Path, same_path}
use Rattle.flat_model.proofs.PathLaws.{path_cmp-IsTotalOrder, same_path_is}
use Rattle.std.proofs.lemmas.Bool.{false≢true}
use Rattle.group_tree.specs.Groups.{Groups, slot_of, IsClosed}
use Rattle.group_tree.specs.declared.attr.Attr.{Attr}
use Rattle.pids_charge.specs.Content.{Content}
use Rattle.pids_charge.specs.Lists.{Row}
use Rattle.pids_charge.specs.Recount.{HasSlots, Recounted, IsPlaced, SameSlots, chain_at, charges_of}
use Rattle.pids_charge.proofs.Entries.{sum_by-same}
use Rattle.pids_charge.proofs.RowsAt.{row_at_same}

-- what an insert leaves at a path
pub which : (tree : Groups) (p : Path) (x : Attr) (q : Path) → ((q ≡ p) × (fin.get (fin.insert tree p x) q ≡ Some x)) ⊎ ((q ≡ p → ⊥) × (fin.get (fin.insert tree p x) q ≡ fin.get tree q))
which tree p x q = elim (same_path q p) as (λ b. same_path q p ≡ b → fin.get (fin.insert tree p x) q ≡ cond b (Some x) (fin.get tree q)
    → ((q ≡ p) × (fin.get (fin.insert tree p x) q ≡ Some x)) ⊎ ((q ≡ p → ⊥) × (fin.get (fin.insert tree p x) q ≡ fin.get tree q))) [
      | true ↦ λ t e. inl ((same_path_is q p).0 t, e)
      | false ↦ λ t e. inr ((λ same. false≢true (sym t ∙ (same_path_is q p).1 same)), e)
    ] refl (fin.get-insert path_cmp-IsTotalOrder tree p x q)

module _ (tree : Groups) (p : Path) (x y : Attr) (here : fin.get tree p ≡ Some y) (slot : x.slot ≡ y.slot) where
  at : (q : Path) → q ≡ p → fin.get tree q ≡ Some y
  at q e = ap (fin.get tree) e ∙ here

  pub changed_slots : IsClosed (fin.insert tree p x) → SameSlots tree (fin.insert tree p x)
  changed_slots closed = record {
    closed = closed;
    size = fin.len-insert path_cmp-IsTotalOrder tree p x ∙ ap (λ (o : Option Attr). cond (is_some o) (fin.len tree) (fin.len tree + 1)) here;
    there = λ q. elim (which tree p x q) [ inl w ↦ ap is_some w.1 ∙ sym (ap is_some (at q w.0)) | inr e ↦ ap is_some e.1 ];
    slots = λ q. elim (which tree p x q) [ inl w ↦ ap slot_of w.1 ∙ slot ∙ sym (ap slot_of (at q w.0)) | inr e ↦ ap slot_of e.1 ];
  }

pub by_some : {X : Type 0} (o o2 : Option X) → is_some o2 ≡ is_some o → IsSome o → IsSome o2
by_some None o2 e h = cc
by_some (Some x) None e h = cc
by_some (Some x) (Some y) e h = refl

module _ (old new : Groups) (same : SameSlots old new) where
  was : (q : Path) → IsSome (fin.get new q) → IsSome (fin.get old q)
  was q i = by_some (fin.get new q) (fin.get old q) (sym (same.there q)) i

  is : (q : Path) → IsSome (fin.get old q) → IsSome (fin.get new q)
  is q i = by_some (fin.get old q) (fin.get new q) (same.there q) i

  pub slots_stay : (slots : ℕ) (free : List ℕ) → HasSlots slots old free → HasSlots slots new free
  slots_stay slots free h = record {
    few = h.few;
    closed = same.closed;
    shallow = λ q i. h.shallow q (was q i);
    below = λ q pos i. omega (arith, h.below q pos (was q i), same.slots q);
    apart = λ q r a b i j e. h.apart q r a b (was q i) (was r j) (sym (same.slots q) ∙ e ∙ same.slots r);
    once = h.once;
    in_range = h.in_range;
    unused = λ q pos i. ap (λ s. count_by (eqb s) free) (same.slots q) ∙ h.unused q pos (was q i);
    whole = omega (arith, h.whole, same.size);
  }

  chain_stays : (p : Path) (leaf s j k : ℕ) → chain_at new p k leaf s j ≡ chain_at old p k leaf s j
  chain_stays p leaf s j zero = refl
  chain_stays p leaf s j (suc k) = rw (chain_stays p leaf s j k, same.slots (take (suc k) p)) refl

  pub charges_stay : {A : Type 0} (leaves : ℕ) (es : List (Row A)) (content : Content) (held : ℕ) → Recounted leaves old es content held → Recounted leaves new es content held
  charges_stay leaves es content held d = record {
    ordered = d.ordered;
    pids = d.pids;
    placed = All-weaker (λ p. IsPlaced leaves old p) (λ p. IsPlaced leaves new p) (λ p h. record {
      home = is p.home h.home;
      row = h.row ∙ row_at_same old new p.home (sym (same.slots p.home));
      leaf_below = h.leaf_below;
    }) (values_of es) d.placed;
    counted = λ s j. d.counted s j
        ∙ sum_by-same (λ p. charges_of old p s j) (λ p. charges_of new p s j) (values_of es)
        (All-weaker (λ p. IsPlaced leaves old p) (λ p. charges_of old p s j
        ≡ charges_of new p s j) (λ p h. sym (chain_stays p.home p.leaf s j (length p.home))) (values_of es) d.placed);
    held_is = d.held_is;
  }
