use Rattle.std.proofs.Common.{[], refl, ap, ◌∙◌, Ok, Err}
use Rattle.flat_model.specs.Refuse.{and_then}
use Rattle.trace_lines.specs.Action.{action_at}
use Rattle.trace_lines.specs.LineMeaning.{text_fault_of}
use Rattle.trace_lines.proofs.FaultOrder.{only_fault, only_memory, memory_last}
use Rattle.trace_lines.proofs.laws.faults_come_in_order.Goals as goal

pub returns-clause-path : goal.returns-clause-path
returns-clause-path c = λ f action r h. only_fault r f (h (Err (text_fault_of f)) refl)

pub returns-clause-action : goal.returns-clause-action
returns-clause-action c = λ p f r h. only_fault r f (h (Ok p) refl)

pub returns-clause-before_memory : goal.returns-clause-before_memory
returns-clause-before_memory c = λ f r h. only_fault r f (h (Ok []) refl)

pub returns-clause-memory : goal.returns-clause-memory
returns-clause-memory c = λ a r. (only_memory a r, memory_last a r)

pub returns-clause-command : goal.returns-clause-command
returns-clause-command c = λ p a command. (
  (λ h. let e = h (Ok p) refl in cc),
  (λ e m is. ap (λ (x : _). and_then x (λ q. action_at q (Ok a))) is ∙ ap Ok e),
)

pub returns-clause-refused : goal.returns-clause-refused
returns-clause-refused c = λ p a f h. let e = h (Ok p) refl in cc
