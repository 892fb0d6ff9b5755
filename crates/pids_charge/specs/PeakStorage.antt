-- The peaks of a list, whether stored inline or in an allocation.
use Rattle.std.specs.Prelude.{◌≡◌, ℕ, ◌<◌, ◌≤◌, List, length, take}
use Rattle.pids_charge.specs.declared.peaks.TheConstants.{INLINE_PEAKS}
use Rattle.pids_charge.specs.declared.peaks.Storage.{Storage}
use Rattle.pids_charge.specs.declared.peaks.Storage.TheVariants.{Few, Many, Wide}

abbrev pub peaks_in : {A : Type 0} → Storage A → List ℕ
peaks_in (Few len peaks) = take len peaks
peaks_in (Many v) = v.items
peaks_in (Wide v) = v.items

-- the table has its capacity, and no more peaks are recorded in it; narrow peaks in an allocation are more than that
abbrev pub FitsInline : {A : Type 0} → Storage A → Type 0
FitsInline (Few len peaks) = (len ≤ INLINE_PEAKS) × (length peaks ≡ INLINE_PEAKS)
FitsInline (Many v) = INLINE_PEAKS < length v.items
FitsInline (Wide v) = Unit {0}
