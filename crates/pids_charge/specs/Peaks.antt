-- The peaks of groups along a path, as they are, as they rise and as they are set.
use Rattle.std.specs.Prelude.{ℕ, ◌-◌, ◌<◌, ◌≡◌, max, cond, List, length, get_or, take, Option, Some, None, option_map}
use Rattle.std.specs.FinMap as fin
use Rattle.flat_model.specs.Path.{Path}
use Rattle.flat_model.specs.Step.{counts_for}
use Rattle.group_tree.specs.Groups.{Groups, slot_of}
use Rattle.group_tree.specs.declared.attr.Attr.{Attr}
use Rattle.snzi_tokens.specs.Listed.{over_leaves}
use Rattle.pids_charge.specs.Content.{Content}

-- the peak of a group
abbrev pub peak_of : Option Attr → ℕ
peak_of None = 0
peak_of (Some attr) = attr.peak

-- the group's peak after it rose: no lower than the meter's content
abbrev pub reached_of : ℕ → Content → Option Attr → ℕ
reached_of leaves content None = 0
reached_of leaves content (Some attr) = max attr.peak (over_leaves leaves (content attr.slot))

-- the attributes of q with their peak raised so, if q counts what happens in a
abbrev pub raised_by : ℕ → Content → Path → Path → Attr → Attr
raised_by leaves content a q attr = record attr { peak = cond (counts_for a q) (max attr.peak (over_leaves leaves (content attr.slot))) attr.peak }

-- the attributes of q with its peak from the list, which has the peaks of the groups from a upward, without the root
abbrev pub peaked_by : Path → List ℕ → Path → Attr → Attr
peaked_by a peaks q attr = record attr { peak = cond (counts_for a q) (get_or peaks (length a - length q) attr.peak) attr.peak }

-- each group has its peak set so, and no group is added or removed
abbrev pub SetsPeaks : Groups → Groups → Path → List ℕ → Type 0
SetsPeaks old new a peaks = (q : Path) → fin.get new q ≡ option_map (peaked_by a peaks q) (fin.get old q)

-- f applied to the groups from p upward, without the root
pub record AreUpward (f : Option Attr → ℕ) (tree : Groups) (p : Path) (ns : List ℕ) : Type 0 where
  pub many : length ns ≡ length p
  pub each : (k : ℕ) → k < length p → get_or ns k 0 ≡ f (fin.get tree (take (length p - k) p))

-- the slots and the peaks of groups
pub record Noted : Type 0 where
  pub slots : List ℕ
  pub peaks : List ℕ

-- they are those of the groups from p upward, without the root
pub record IsNoted (tree : Groups) (p : Path) (notes : Noted) : Type 0 where
  pub slots : AreUpward slot_of tree p notes.slots
  pub peaks : AreUpward peak_of tree p notes.peaks
