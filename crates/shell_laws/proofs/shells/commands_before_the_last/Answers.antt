use Rattle.std.proofs.Common.{◌≡◌, ◌∙◌, [], ◌∷◌, false, refl, sym, arith}
use Rattle.std.proofs.lemmas.List.Elements.{All-nil}
use Rattle.flat_model.specs.Replies.{is_fault}
use Rattle.flat_model.specs.Trace.{Line}
use Rattle.shell_laws.proofs.Stricts.{first_is_no_fault}
use Rattle.shell_laws.proofs.shells.commands_before_the_last.Goals as goal

pub returns-clause-none : goal.returns-clause-none
returns-clause-none c = ([], [], refl, omega (arith), All-nil (λ (line : Line). is_fault line ≡ false))

pub returns-clause-one : goal.returns-clause-one
returns-clause-one c = λ text line is. ([], line ∷ [], is, omega (arith), All-nil (λ (line : Line). is_fault line ≡ false))

pub returns-clause-two : goal.returns-clause-two
returns-clause-two c = λ text first last is f h. first_is_no_fault first last f h.0 h.1 (sym is ∙ h.2) h.3 h.4
