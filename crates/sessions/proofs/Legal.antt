-- A log that is one entry longer.
use Rattle.std.proofs.Common.{◌≡◌, ◌∙◌, ℕ, List, [], ◌∷◌, ◌++◌, map, refl, sym, ap, subst}
use Rattle.std.proofs.lemmas.List.{map-append}
use Rattle.flat_model.specs.Command.{Command}
use Rattle.flat_model.specs.Machine.{Machine, tick, new_machine}
use Rattle.flat_model.specs.Log.{Entry, IsLegal, log_end}
use Rattle.flat_model.proofs.MachineRuns.{end_of-push, replies-push}
use Rattle.undo_journal.specs.Timeline.{Timeline, from_start, becomes}

-- both facts of a book
pub record Kept (slots : ℕ) (engine : Timeline) (log : List Entry) : Type 0 where
  pub legal : IsLegal slots log
  pub at_end : engine ≡ from_start (log_end slots log)

abbrev commands : List Entry → List Command
commands log = map (λ e. e.command) log

longer_end : (slots : ℕ) (log : List Entry) (engine next : Timeline) (e : Entry) → engine ≡ from_start (log_end slots log)
    → next ≡ becomes engine (tick slots engine.machine e.command).0 → next ≡ from_start (log_end slots (log ++ e ∷ []))
longer_end slots log engine next e at goes =
    rw (map-append (λ (x : Entry). x.command) log (e ∷ []), end_of-push slots new_machine (commands log) e.command)
    (goes ∙ ap (λ (t : Timeline). becomes t (tick slots t.machine e.command).0) at)

longer_legal : (slots : ℕ) (log : List Entry) (machine : Machine) (e : Entry) → IsLegal slots log → machine ≡ log_end slots log
    → e.reply ≡ (tick slots machine e.command).1 → IsLegal slots (log ++ e ∷ [])
longer_legal slots log machine e legal at answered =
    rw (map-append (λ (x : Entry). x.command) log (e ∷ []), map-append (λ (x : Entry). x.reply) log (e ∷ []), replies-push slots new_machine (commands log) e.command, legal, ← at, answered) refl

-- an entry is appended to the log when the machine has answered it
pub longer : (slots : ℕ) (log items : List Entry) (engine next : Timeline) (e : Entry) → items ≡ log ++ e ∷ [] → IsLegal slots log → engine ≡ from_start (log_end slots log)
    → next ≡ becomes engine (tick slots engine.machine e.command).0 → e.reply ≡ (tick slots engine.machine e.command).1 → Kept slots next items
longer slots log items engine next e same legal at goes answered =
    let P : List Entry → Type 0 = λ xs. Kept slots next xs in
    subst P (sym same) (record { legal = longer_legal slots log engine.machine e legal (ap (λ (t : Timeline). t.machine) at) answered; at_end = longer_end slots log engine next e at goes })
