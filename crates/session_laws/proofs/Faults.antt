-- What the first fault of an audit's answer is, by the laws of the model.
use Rattle.std.proofs.Common.{◌≡◌, ◌≢◌, ◌⊎◌, ◌↔◌, inl, inr, ℕ, ◌+◌, ◌-◌, ◌<◌, List, refl, ap, arith}
use Rattle.flat_model.specs.Log.{Entry, Session}
use Rattle.flat_model.specs.Audit as model
use Rattle.flat_model.specs.Audit.{AreEntries, FirstFault}
use Rattle.flat_model_laws.proofs.AuditLaws.{fault_not_entries, faults_are_one}
use Rattle.flat_model_laws.proofs.AuditSame.{entries_or_first_fault}
use Rattle.sessions.specs.declared.fault.CloseFault.{CloseFault}
use Rattle.sessions.specs.declared.fault.CloseFault.TheVariants.{Stranger, Mismatch, Missing, OutOfMemory}
use Rattle.sessions.specs.Faults.{IsFirstFault}

module _ (n : ℕ) (log : List Entry) (ss : List Session) where
  pub one_fault : (f g : CloseFault) → f ≢ OutOfMemory → g ≢ OutOfMemory → IsFirstFault n log ss f → IsFirstFault n log ss g → f ≡ g
  one_fault OutOfMemory g p q x y = absurd (p refl)
  one_fault (Stranger j) OutOfMemory p q x y = absurd (q refl)
  one_fault (Mismatch j) OutOfMemory p q x y = absurd (q refl)
  one_fault (Missing j) OutOfMemory p q x y = absurd (q refl)
  one_fault (Stranger j) (Stranger k) p q x y = let e = faults_are_one n log ss (model.Stranger j) (model.Stranger k) x y in let is : j ≡ k = cc in ap (λ i. Stranger i) is
  one_fault (Mismatch j) (Mismatch k) p q x y = let e = faults_are_one n log ss (model.Mismatch j) (model.Mismatch k) x y in let is : j ≡ k = cc in ap (λ i. Mismatch i) is
  one_fault (Missing j) (Missing k) p q x y = let e = faults_are_one n log ss (model.Missing j) (model.Missing k) x y in let is : j ≡ k = cc in ap (λ i. Missing i) is
  one_fault (Stranger j) (Mismatch k) p q x y = let e = faults_are_one n log ss (model.Stranger j) (model.Mismatch k) x y in cc
  one_fault (Stranger j) (Missing k) p q x y = let e = faults_are_one n log ss (model.Stranger j) (model.Missing k) x y in cc
  one_fault (Mismatch j) (Stranger k) p q x y = let e = faults_are_one n log ss (model.Mismatch j) (model.Stranger k) x y in cc
  one_fault (Mismatch j) (Missing k) p q x y = let e = faults_are_one n log ss (model.Mismatch j) (model.Missing k) x y in cc
  one_fault (Missing j) (Stranger k) p q x y = let e = faults_are_one n log ss (model.Missing j) (model.Stranger k) x y in cc
  one_fault (Missing j) (Mismatch k) p q x y = let e = faults_are_one n log ss (model.Missing j) (model.Mismatch k) x y in cc

  pub no_fault : (f : CloseFault) → AreEntries n log ss → IsFirstFault n log ss f → f ≡ OutOfMemory
  no_fault (Stranger k) e x = absurd (fault_not_entries n log ss (model.Stranger k) x e)
  no_fault (Mismatch k) e x = absurd (fault_not_entries n log ss (model.Mismatch k) x e)
  no_fault (Missing k) e x = absurd (fault_not_entries n log ss (model.Missing k) x e)
  no_fault OutOfMemory e x = refl

  abbrev Told : Type 0
  Told = (f : CloseFault) × (f ≢ OutOfMemory) × IsFirstFault n log ss f

  told : (f : model.ReceiptFault) → FirstFault n log ss f → Told
  told (model.Stranger k) x = (Stranger k, (λ e. cc), x)
  told (model.Mismatch k) x = (Mismatch k, (λ e. cc), x)
  told (model.Missing k) x = (Missing k, (λ e. cc), x)

  pub entries_or_told : AreEntries n log ss ⊎ ((f : CloseFault) × (f ≢ OutOfMemory) × IsFirstFault n log ss f)
  entries_or_told = elim (entries_or_first_fault n log ss) as (λ _. AreEntries n log ss ⊎ Told) [ inl e ↦ inl e | inr x ↦ inr (told x.0 x.1) ]

-- a turn below the length, by what the length is above it
pub below_by : (turn len : ℕ) → (turn < len) ↔ ((k : ℕ) × (len ≡ turn + 1 + k))
below_by turn len = (λ lt. (len - (turn + 1), omega (arith, lt)), λ x. let e = x.1 in omega (arith, e))
