-- What a table of marks means while an audit visits the receipts.
use Rattle.std.specs.Prelude.{◌≡◌, ◌≢◌, ℕ, ◌<◌, ◌≤◌, ◌⊎◌, List, length, Bool, true, false, Some, slice_get, slice_index_or}
use Rattle.std.specs.List.{Contains}
use Rattle.flat_model.specs.Log.{Entry, Receipt, entry_of}
use Rattle.flat_model.specs.Audit.{Handed, AreSound, numbers}
use Rattle.sessions.specs.declared.fault.CloseFault.{CloseFault}
use Rattle.sessions.specs.declared.fault.CloseFault.TheVariants.{Stranger, Mismatch, Missing, OutOfMemory}

-- the receipts so far are sound, and the marks are the numbers that they named
pub record Audited (n : ℕ) (log : List Entry) (marks : List Bool) (hs : List Handed) : Type 0 where
  pub size : length marks ≡ length log
  pub sound : AreSound n log hs
  pub marked : (i : ℕ) → i < length log → slice_index_or marks i true ≡ true → Contains (numbers hs) i
  pub clear : (i : ℕ) → i < length log → slice_index_or marks i true ≡ false → Contains (numbers hs) i → ⊥

-- nothing is marked
abbrev pub AllClear : ℕ → List Bool → Type 0
AllClear size marks = (length marks ≡ size) × ((i : ℕ) → i < size → slice_index_or marks i true ≡ false)

-- a receipt that may come next, in a list whose next number is at least `least`
abbrev pub IsNew : ℕ → List Entry → List Bool → ℕ → ℕ → Receipt → Type 0
IsNew n log marks session least r =
    (session < n) × (r.number < length log) × (least ≤ r.number) × (slice_index_or marks r.number true ≡ false)

-- why a receipt is refused after these marks
abbrev pub IsRefusedBy : ℕ → List Entry → List Bool → ℕ → ℕ → Receipt → CloseFault → Type 0
IsRefusedBy n log marks session least r (Stranger k) =
    (session ≡ k)
    × ((n ≤ session)
    ⊎ ((length log ≤ r.number)
    ⊎ ((r.number < least)
    ⊎ ((r.number < length log) × (slice_index_or marks r.number true ≡ true)))))
IsRefusedBy n log marks session least r (Mismatch i) =
    (r.number ≡ i) × IsNew n log marks session least r × (slice_get log r.number ≢ Some (entry_of session r))
IsRefusedBy n log marks session least r (Missing i) = ⊥
IsRefusedBy n log marks session least r OutOfMemory = ⊥

-- the first number that is not marked
abbrev pub IsFirstClear : List Bool → ℕ → Type 0
IsFirstClear marks i =
    (i < length marks) × (slice_index_or marks i true ≡ false)
    × ((k : ℕ) → k < i → slice_index_or marks k true ≡ true)
