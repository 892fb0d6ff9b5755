-- What reads and a whole write leave of a device, if it exposes its bytes.
use Rattle.std.specs.Prelude.{◌≡◌, ℕ, List, [], ◌++◌, Option, Some, None, Result, Ok, Err, Bool, true, false}
use Rattle.program_io.specs.declared.device.DeviceFault.{DeviceFault}

-- ---- the input

-- these bytes are all that the source had, if it exposes them
abbrev pub IsInput : Option (List ℕ) → List ℕ → Type 0
IsInput None bytes = Unit {0}
IsInput (Some left) bytes = left ≡ bytes

-- nothing was read: the source has the bytes that it had, and no read failed
pub record IsUnread (left rest : Option (List ℕ)) (read_failed : Bool) : Type 0 where
  pub same : rest ≡ left
  pub good_reads : read_failed ≡ false

-- ---- the output

-- the front of these bytes was taken, and this rest of them was not
abbrev pub TakesFront : Option (List ℕ) → List ℕ → List ℕ → Option (List ℕ) → Type 0
TakesFront None bytes rest after = Unit {0}
TakesFront (Some before) bytes rest None = ⊥
TakesFront (Some before) bytes rest (Some after) = (front : List ℕ) × (bytes ≡ front ++ rest) × (after ≡ before ++ front)

-- all bytes were taken and flushed; otherwise a write or the flush failed, and a prefix was taken
abbrev pub WholeWrite : Option (List ℕ) → List ℕ → Option (List ℕ) → Bool → Bool → Result (Unit {0}) DeviceFault → Type 0
WholeWrite before bytes after failed flushed (Ok u) = (failed ≡ false) × (flushed ≡ true) × TakesFront before bytes [] after
WholeWrite before bytes after failed flushed (Err e) = (failed ≡ true) × ((rest : List ℕ) × TakesFront before bytes rest after)

-- nothing was written, and no write failed
pub record IsUnwritten (before after : Option (List ℕ)) (write_failed : Bool) : Type 0 where
  pub same : after ≡ before
  pub good_writes : write_failed ≡ false
