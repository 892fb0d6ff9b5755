-- Which faults receipts can have in a legal log.
use Rattle.std.proofs.Common.{◌≡◌, ◌↔◌, ℕ, zero, suc, ◌<◌, List, [], ◌∷◌, ◌++◌, None, Some, slice_get, refl, sym, ap, subst, arith}
use Rattle.std.specs.List.{Contains}
use Rattle.std.proofs.lemmas.Option.{same_Some}
use Rattle.flat_model.specs.Command as model
use Rattle.flat_model.specs.Log.{Entry, IsLegal, Session}
use Rattle.flat_model.specs.Audit.{AreSound, Handed, handed}
use Rattle.flat_model.proofs.AuditSound.{hand, sound_none}
use Rattle.flat_model_laws.specs.AuditExamples.{Exchange, entry, receipt, session}
use Rattle.sessions.specs.Faults.{IsFirstFault, IsRefused}
use Rattle.sessions.specs.SessionMeaning.{slots}
use Rattle.sessions.specs.declared.fault.CloseFault.{CloseFault}
use Rattle.sessions.specs.declared.fault.CloseFault.TheVariants as fault

pub memory_is : (n : ℕ) (ss : List Session) → IsRefused n ss fault.OutOfMemory
memory_is n ss = record { log = []; legal = refl; first = tt }

none_named : (i : ℕ) → Contains [] i → ⊥
none_named i c = omega (arith, c.1)

first_only : (i : ℕ) → ((j : ℕ) → j < i → Contains [] j) → i ≡ 0
first_only zero h = refl
first_only (suc i) h = absurd (none_named 0 (h 0 (omega arith)))

-- an undo at the start, which does nothing
abbrev one : List Entry
one = entry 0 (record { command = model.Undo; reply = model.NothingToUndo }) ∷ []

first_missing : (n : ℕ) → IsRefused n [] (fault.Missing 0)
first_missing n = record { log = one; legal = refl; first = (sound_none n one, omega arith, none_named 0, λ j lt. absurd (omega (arith, lt))) }

pub missing_is : (n i : ℕ) → IsRefused n [] (fault.Missing i) ↔ (i ≡ 0)
missing_is n i = (λ r. first_only i r.first.3, λ e. subst (λ (j : ℕ). IsRefused n [] (fault.Missing j)) (sym e) (first_missing n))

no_receipt : (before rest : List Handed) (h : Handed) → [] ≡ before ++ h ∷ rest → ⊥
no_receipt [] rest h e = cc
no_receipt (b ∷ before) rest h e = cc

pub stranger_is_none : (n k : ℕ) → IsRefused n [] (fault.Stranger k) → ⊥
stranger_is_none n k r = let f = r.first in no_receipt f.0 f.2.rest f.1 f.2.split

pub mismatch_is_none : (n i : ℕ) → IsRefused n [] (fault.Mismatch i) → ⊥
mismatch_is_none n i r = let f = r.first in no_receipt f.0 f.2.rest f.1 f.2.split

abbrev never : Exchange
never = record { command = model.Undo; reply = model.Done }

abbrev first_reply : List model.Reply → model.Reply
first_reply [] = model.Done
first_reply (r ∷ rs) = r

never_first : (e : Entry) (log : List Entry) → e ≡ entry 0 never → IsLegal slots (e ∷ log) → ⊥
never_first e log is legal =
    let P : Entry → Type 0 = λ x. IsLegal slots (x ∷ log) in
    let no : model.NothingToUndo ≡ model.Done = ap first_reply (subst P is legal) in
    cc

never_entry : (log : List Entry) → IsLegal slots log → slice_get log 0 ≡ Some (entry 0 never) → ⊥
never_entry [] legal e = let no : None ≡ Some (entry 0 never) = e in cc
never_entry (x ∷ log) legal e = never_first x log (same_Some x (entry 0 never) e) legal

pub illegal_is_none : (n i : ℕ) → IsRefused n (session 0 (receipt 0 never ∷ []) ∷ []) (fault.Missing i) → ⊥
illegal_is_none n i r = never_entry r.log r.legal (r.first.0.entries 0 (hand 0 0 (receipt 0 never)) (omega arith)).1
