-- Two entries are equal or they differ.
use Rattle.std.proofs.Common.{◌≡◌, ◌≢◌, ℕ, ◌⊎◌, ◌↔◌, inl, inr, List, ◌∙◌, ap}
use native.Mathlib.Decide.{ℕ_discrete}
use mathlib.Core.List.{List-discrete}
use Rattle.flat_model.specs.Path.{Path}
use Rattle.flat_model.specs.State.{Limit-discrete}
use Rattle.flat_model.specs.File.{File-discrete, LimitFile-discrete}
use Rattle.flat_model.specs.Command.{Command, Reply, Command-discrete, Reply-discrete, Refusal-discrete}
use Rattle.flat_model.specs.Log.{Entry, Session}
use Rattle.flat_model.specs.Audit.{ReceiptFault, AreEntries, FirstFault}
use Rattle.flat_model_laws.proofs.AuditLaws.{entries_or_fault, fault_not_entries}

pub texts : Discrete (List ℕ)
texts = List-discrete ℕ_discrete

pub paths : Discrete Path
paths = List-discrete texts

pub commands : Discrete Command
commands = Command-discrete paths ℕ_discrete LimitFile-discrete (Limit-discrete ℕ_discrete) (File-discrete LimitFile-discrete)

pub replies : Discrete Reply
replies = Reply-discrete texts commands (Refusal-discrete paths ℕ_discrete)

pub entries : (a b : Entry) → (a ≡ b) ⊎ (a ≢ b)
entries a b =
    elim (ℕ_discrete a.session b.session) as (λ _. (a ≡ b) ⊎ (a ≢ b)) [
      | no other ↦ inr (λ e. other (ap (λ (x : Entry). x.session) e))
      | yes s ↦ elim (commands a.command b.command) as (λ _. (a ≡ b) ⊎ (a ≢ b)) [
        | no other ↦ inr (λ e. other (ap (λ (x : Entry). x.command) e))
        | yes c ↦ elim (replies a.reply b.reply) as (λ _. (a ≡ b) ⊎ (a ≢ b)) [
          | no other ↦ inr (λ e. other (ap (λ (x : Entry). x.reply) e))
          | yes r ↦ inl (same a b s c r)
        ]
      ]
    ]
  where
    same : (a b : Entry) → a.session ≡ b.session → a.command ≡ b.command → a.reply ≡ b.reply → a ≡ b
    same a b s c r =
        let of : ℕ → Command → Reply → Entry = λ k x y. record { session = k; command = x; reply = y } in
        ap (λ k. of k a.command a.reply) s ∙ ap (λ x. of b.session x a.reply) c ∙ ap (λ y. of b.session b.command y) r

pub entries_or_first_fault : (n : ℕ) (log : List Entry) (ss : List Session) → AreEntries n log ss ⊎ ((f : ReceiptFault) × FirstFault n log ss f)
entries_or_first_fault = entries_or_fault entries

pub entries_without_fault : (n : ℕ) (log : List Entry) (ss : List Session) → AreEntries n log ss ↔ ((f : ReceiptFault) → FirstFault n log ss f → ⊥)
entries_without_fault n log ss = (
  λ e f x. fault_not_entries n log ss f x e,
  λ none. elim (entries_or_first_fault n log ss) as (λ _. AreEntries n log ss) [ inl e ↦ e | inr x ↦ absurd (none x.0 x.1) ],
)
