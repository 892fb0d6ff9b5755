-- A log that is one entry longer: its end, and that it is legal.
use Rattle.std.proofs.Common.{◌≡◌, ◌↔◌, ℕ, List, [], ◌∷◌, ◌++◌, map, sym, ap, ◌∙◌}
use Rattle.std.proofs.lemmas.List.{map-append, same_from_push}
use Rattle.flat_model.specs.Command.{Command, Reply}
use Rattle.flat_model.specs.Machine.{tick, replies, end_of, new_machine}
use Rattle.flat_model.specs.Log.{Entry, IsLegal, log_end}
use Rattle.flat_model.proofs.MachineRuns.{end_of-push, replies-push}

abbrev commands : List Entry → List Command
commands log = map (λ e. e.command) log

abbrev said : List Entry → List Reply
said log = map (λ e. e.reply) log

pub log_end-push : (slots : ℕ) (log : List Entry) (e : Entry) → log_end slots (log ++ e ∷ []) ≡ (tick slots (log_end slots log) e.command).0
log_end-push slots log e =
    ap (end_of slots new_machine) (map-append (λ (x : Entry). x.command) log (e ∷ []))
    ∙ end_of-push slots new_machine (commands log) e.command

-- what the machine says to the longer log, and what stands in it
machine_says : (slots : ℕ) (log : List Entry) (e : Entry)
    → replies slots new_machine (commands (log ++ e ∷ [])) ≡ replies slots new_machine (commands log)
    ++ (tick slots (log_end slots log) e.command).1 ∷ []
machine_says slots log e =
    ap (replies slots new_machine) (map-append (λ (x : Entry). x.command) log (e ∷ []))
    ∙ replies-push slots new_machine (commands log) e.command

log_says : (log : List Entry) (e : Entry) → said (log ++ e ∷ []) ≡ said log ++ e.reply ∷ []
log_says log e = map-append (λ (x : Entry). x.reply) log (e ∷ [])

pub legal-push : (slots : ℕ) (log : List Entry) (e : Entry) → IsLegal slots (log ++ e ∷ []) ↔ (IsLegal slots log × (e.reply ≡ (tick slots (log_end slots log) e.command).1))
legal-push slots log e = (
  λ legal.
      let both = same_from_push (replies slots new_machine (commands log)) (said log) (tick slots (log_end slots log) e.command).1 e.reply
      (sym (machine_says slots log e) ∙ legal ∙ log_says log e) in
      (both.0, sym both.1),
  λ both. machine_says slots log e ∙ (λ i. both.0 i ++ sym both.1 i ∷ []) ∙ sym (log_says log e),
)
