-- When the receipts of some sessions are the entries of a log, each once; and the first fault if they are not.
use Rattle.std.specs.Prelude.{◌≡◌, ◌≢◌, ℕ, ◌+◌, ◌<◌, ◌≤◌, ◌⊎◌, List, [], ◌∷◌, ◌++◌, map, length, Some, slice_get}
use Rattle.std.specs.List.{All, Any, AllPairs, Contains}
use Rattle.flat_model.specs.Log.{Entry, Receipt, Session, entry_of}

-- a receipt as it was handed in: in which list, counted from 0, and by a session of which number
pub record Handed : Type 0 where
  pub list : ℕ
  pub session : ℕ
  pub receipt : Receipt

abbrev pub list_of : ℕ → ℕ → List Receipt → List Handed
list_of place session rs = map (λ r. record { list = place; session = session; receipt = r }) rs

abbrev pub handed_from : ℕ → List Session → List Handed
handed_from place [] = []
handed_from place (s ∷ ss) = list_of place s.number s.receipts ++ handed_from (place + 1) ss

-- all receipts, in the given order: list after list
abbrev pub handed : List Session → List Handed
handed sessions = handed_from 0 sessions

abbrev pub numbers : List Handed → List ℕ
numbers hs = map (λ h. h.receipt.number) hs

-- the receipt is the log's entry at its number, of a session below n
abbrev pub IsEntry : ℕ → List Entry → Handed → Type 0
IsEntry n log h = (h.session < n) × (slice_get log h.receipt.number ≡ Some (entry_of h.session h.receipt))

-- a later receipt has another number, and a greater one in the same list
abbrev pub InOrder : Handed → Handed → Type 0
InOrder earlier later = (earlier.receipt.number ≢ later.receipt.number) × (earlier.list ≡ later.list → earlier.receipt.number < later.receipt.number)

-- so far, the receipts are entries of the log, no entry twice, ascending within a list
pub record AreSound (n : ℕ) (log : List Entry) (hs : List Handed) : Type 0 where
  pub entries : All (IsEntry n log) hs
  pub order : AllPairs InOrder hs

-- the receipts are the log's entries, each once
pub record AreEntries (n : ℕ) (log : List Entry) (sessions : List Session) : Type 0 where
  pub sound : AreSound n log (handed sessions)
  pub each : (i : ℕ) → i < length log → Contains (numbers (handed sessions)) i

-- ---- the first fault

pub data ReceiptFault : Type 0 where
  -- a receipt of the session with this number is no entry, or not at this place
  Stranger : ℕ → ReceiptFault
  -- a receipt differs from the entry of this number
  Mismatch : ℕ → ReceiptFault
  -- the entry of this number has no receipt
  Missing : ℕ → ReceiptFault

-- it is no entry, or not at this place: its session is not one of the n, or its number is not in the log, came before,
-- or is below an earlier number in its list
abbrev pub IsStranger : ℕ → List Entry → List Handed → Handed → Type 0
IsStranger n log before h =
    (n ≤ h.session)
    ⊎ ((length log ≤ h.receipt.number)
    ⊎ (Contains (numbers before) h.receipt.number
    ⊎ Any (λ e. (e.list ≡ h.list) × (h.receipt.number < e.receipt.number)) before))

-- its session, command or reply differs from the entry at its number
abbrev pub Differs : List Entry → Handed → Type 0
Differs log h = slice_get log h.receipt.number ≢ Some (entry_of h.session h.receipt)

-- all receipts before this one are sound
pub record Reached (n : ℕ) (log : List Entry) (hs before : List Handed) (h : Handed) : Type 0 where
  pub rest : List Handed
  pub split : hs ≡ before ++ h ∷ rest
  pub sound : AreSound n log before

-- the first fault in the given order
abbrev pub FirstFault : ℕ → List Entry → List Session → ReceiptFault → Type 0
FirstFault n log sessions (Stranger k) =
    (before : List Handed) × (h : Handed) × Reached n log (handed sessions) before h × IsStranger n log before h × (h.session ≡ k)
FirstFault n log sessions (Mismatch i) =
    (before : List Handed) × (h : Handed) × Reached n log (handed sessions) before h × (IsStranger n log before h → ⊥) × Differs log h × (h.receipt.number ≡ i)
FirstFault n log sessions (Missing i) =
    AreSound n log (handed sessions) × (i < length log) × (Contains (numbers (handed sessions)) i → ⊥) × ((j : ℕ) → j < i → Contains (numbers (handed sessions)) j)
