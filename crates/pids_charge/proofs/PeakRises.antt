-- Peaks along a path, as they are and as they rise.
use Rattle.std.proofs.Common.{◌≡◌, ℕ, ◌-◌, ◌<◌, true, false, cond, List, ◌++◌, length, get_or, take, drop, Option, Some, None, IsSome, option_map, refl, sym, ap, ◌∙◌, subst, arith}
use Rattle.std.specs.Prelude.{max, unwrap_or}
use Rattle.std.proofs.Math.Seq.{take-append_seam}
use Rattle.std.proofs.lemmas.Grind.{same_number_lists, get_or_default_zero}
use Rattle.std.specs.FinMap as fin
use Rattle.flat_model.specs.Path.{Path, at_or_below, is_root}
use Rattle.flat_model.specs.State as flat
use Rattle.flat_model.specs.State.{State, fresh}
use Rattle.flat_model.specs.Counts.{current}
use Rattle.flat_model.specs.Step.{counts_for, raise_peak, raise_peaks, peaks_upward}
use Rattle.flat_model.proofs.MapValues.{get-map_values}
use Rattle.flat_model.proofs.PathLaws.{at_or_below_take, at_or_below_length}
use Rattle.flat_model.proofs.Peaks.{named, peak_upward, length-peaks_upward}
use Rattle.flat_model.proofs.Booleans.{both_by}
use Rattle.group_tree.specs.Flat.{group_of}
use Rattle.group_tree.specs.Groups.{Groups, slot_of}
use Rattle.group_tree.specs.declared.attr.Attr.{Attr}
use Rattle.snzi_tokens.specs.Listed.{over_leaves}
use Rattle.pids_charge.specs.Content.{Content}
use Rattle.pids_charge.specs.Lists.{Row, row_at}
use Rattle.pids_charge.specs.Peaks.{peak_of, reached_of, raised_by, AreUpward, peaked_by, IsNoted, Noted}
use Rattle.pids_charge.specs.Recount.{Recounted, HasSlots, SameSlots, state_of}
use Rattle.pids_charge.proofs.Changes.{charges_stay}
use Rattle.pids_charge.proofs.PathCharges.{current-is}
use Rattle.pids_charge.proofs.FlatTotals.{flat_changed}

-- ---- one group of the way

-- what such a list has of a group that counts what happens in p
module _ (f : Option Attr → ℕ) (tree : Groups) (p : Path) (ns : List ℕ) (up : AreUpward f tree p ns) where
  place : (q : Path) → counts_for p q ≡ true → length p - length q < length p
  place q c =
      let two = both_by (is_root q) (at_or_below p q) c in
      let long = named q two.0 in
      let short = at_or_below_length p q two.1 in
      omega (arith, long, short)

  up_at : (q : Path) → counts_for p q ≡ true → get_or ns (length p - length q) 0 ≡ f (fin.get tree q)
  up_at q c =
      let two = both_by (is_root q) (at_or_below p q) c in
      let short = at_or_below_length p q two.1 in
      let same : length p - (length p - length q) ≡ length q = omega arith in
      up.each (length p - length q) (place q c) ∙ ap (λ (a : Path). f (fin.get tree a)) (ap (λ n. take n p) same ∙ sym (at_or_below_take p q two.1))

  up_or : (q : Path) (d : ℕ) → counts_for p q ≡ true → get_or ns (length p - length q) d ≡ f (fin.get tree q)
  up_or q d c = get_or_default_zero ns (length p - length q) d (let h = place q c in let l = up.many in omega (arith, h, l)) ∙ up_at q c

module _ (leaves : ℕ) (content : Content) (tree : Groups) (p : Path) (raised : List ℕ) (up : AreUpward (reached_of leaves content) tree p raised) where
  set_to : (q : Path) (o : Option Attr) → fin.get tree q ≡ o → option_map (peaked_by p raised q) o ≡ option_map (raised_by leaves content p q) o
  set_to q None e = refl
  set_to q (Some x) e =
      elim (counts_for p q) as (λ b. counts_for p q ≡ b
      → ◌≡◌ {A = Option Attr} (Some (record x { peak = cond b (get_or raised (length p - length q) x.peak) x.peak }))
      (Some (record x { peak = cond b (max x.peak (over_leaves leaves (content x.slot))) x.peak }))) [
        | true ↦ λ c. ap (λ (n : ℕ). Some (record x { peak = n })) (up_or (reached_of leaves content) tree p raised up q x.peak c ∙ ap (reached_of leaves content) e)
        | false ↦ λ c. refl
      ] refl

  -- the peaks that were reached are set
  pub raised_set : (new : Groups) → ((q : Path) → fin.get new q ≡ option_map (peaked_by p raised q) (fin.get tree q)) → (q : Path)
      → fin.get new q ≡ option_map (raised_by leaves content p q) (fin.get tree q)
  raised_set new set q = set q ∙ set_to q (fin.get tree q) refl

-- the peaks that they are
module _ (tree : Groups) (p : Path) (peaks : List ℕ) (up : AreUpward peak_of tree p peaks) where
  stays : (q : Path) (o : Option Attr) → fin.get tree q ≡ o → o ≡ option_map (peaked_by p peaks q) o
  stays q None e = refl
  stays q (Some x) e =
      elim (counts_for p q) as (λ b. counts_for p q ≡ b → ◌≡◌ {A = Option Attr} (Some x) (Some (record x { peak = cond b (get_or peaks (length p - length q) x.peak) x.peak }))) [
        | true ↦ λ c. ap (λ (n : ℕ). Some (record x { peak = n })) (ap peak_of (sym e) ∙ sym (up_or peak_of tree p peaks up q x.peak c))
        | false ↦ λ c. refl
      ] refl

  -- setting these changes nothing
  pub none_set : (q : Path) → fin.get tree q ≡ option_map (peaked_by p peaks q) (fin.get tree q)
  none_set q = stays q (fin.get tree q) refl

-- ---- the same in the flat state

module _ {A : Type 0} (tree : Groups) (es : List (Row A)) (s : State) (v : state_of tree es ≡ s) where
  peak_there : (q : Path) (o : Option Attr) → (unwrap_or (option_map group_of o) fresh).peak ≡ peak_of o
  peak_there q None = refl
  peak_there q (Some x) = refl

  peak_is : (q : Path) → (unwrap_or (fin.get s.groups q) fresh).peak ≡ peak_of (fin.get tree q)
  peak_is q =
      ap (λ (t : State). (unwrap_or (fin.get t.groups q) fresh).peak) (sym v)
      ∙ ap (λ (o : Option flat.Attr). (unwrap_or o fresh).peak) (get-map_values group_of tree q) ∙ peak_there q (fin.get tree q)

  -- the peaks that were noted are those of the state
  pub noted : (p : Path) (ns : List ℕ) → AreUpward peak_of tree p ns → ns ≡ peaks_upward s p
  noted p ns up = same_number_lists ns (peaks_upward s p) (up.many ∙ sym (length-peaks_upward s p)) (λ k h.
      let l = up.many in
      let inside : k < length p = omega (arith, h, l) in
      up.each k inside ∙ sym (peak_is (take (length p - k) p)) ∙ sym (peak_upward s p k 0 inside))

module _ {A : Type 0} (slots leaves : ℕ) (tree : Groups) (es : List (Row A)) (content : Content) (held : ℕ)
    (d : Recounted leaves tree es content held) (free : List ℕ) (h : HasSlots slots tree free)
    (prefixes : (p q : Path) → IsSome (fin.get tree p) → at_or_below p q ≡ true → IsSome (fin.get tree q)) where
  -- what the meter holds at a group is its count
  pub raised-is : (p q : Path) (attr : Attr) → fin.get tree q ≡ Some attr → group_of (raised_by leaves content p q attr) ≡ raise_peak (state_of tree es) p q (group_of attr)
  raised-is p q attr e =
      elim (counts_for p q) as (λ b. counts_for p q ≡ b
      → ◌≡◌ {A = flat.Attr}
      (record (group_of attr) { peak = cond b (max attr.peak (over_leaves leaves (content attr.slot))) attr.peak })
      (record (group_of attr) { peak = cond b (max attr.peak (current (state_of tree es) q)) attr.peak })) [
        | true ↦ λ c.
            let two = both_by (is_root q) (at_or_below p q) c in
            let count : over_leaves leaves (content attr.slot) ≡ current (state_of tree es) q =
            ap (λ (o : Option Attr). over_leaves leaves (content (slot_of o))) (sym e) ∙ current-is slots leaves tree es content held d free h prefixes q (named q two.0) (rw e refl) in
            ap (λ (n : ℕ). record (group_of attr) { peak = max attr.peak n }) count
        | false ↦ λ c. refl
      ] refl

-- ---- the tree once peaks have risen

module _ {A : Type 0} (slots leaves : ℕ) (tree new : Groups) (es : List (Row A)) (final content : Content) (held : ℕ) (d : Recounted leaves tree es final held) (same : SameSlots tree new) where
  -- a meter that holds the same at each slot and leaf
  pub raised_recounted : ((s j : ℕ) → content s j ≡ final s j) → Recounted leaves new es content held
  raised_recounted alike =
      let stays = charges_stay tree new same leaves es final held d in
      record {
        ordered = stays.ordered;
        pids = stays.pids;
        placed = stays.placed;
        counted = λ s j. alike s j ∙ stays.counted s j;
        held_is = stays.held_is;
      }

  pub raised_state : (free : List ℕ) → HasSlots slots tree free
      → ((p q : Path) → IsSome (fin.get tree p) → at_or_below p q ≡ true → IsSome (fin.get tree q)) → (p : Path)
      → ((q : Path) → fin.get new q ≡ option_map (raised_by leaves final p q) (fin.get tree q))
      → state_of new es ≡ raise_peaks p (state_of tree es)
  raised_state free h prefixes p raised =
      let s : State = state_of tree es in
      flat_changed (raised_by leaves final p) tree new raised (raise_peak s p) (raised-is slots leaves tree es final held d free h prefixes p) s.home

-- a slice that was lent whole stands in the list whole
pub lent_whole : (ns new : List ℕ) (n : ℕ) → n ≡ length new → take n (new ++ drop (length new) ns) ≡ new
lent_whole ns new n e = ap (λ k. take k (new ++ drop (length new) ns)) e ∙ take-append_seam new (drop (length new) ns)
