-- Which fault a line may have, and which command may be out of memory.
use Rattle.std.proofs.Common.{◌≡◌, ◌⊎◌, inl, inr, ℕ, Err, refl}
use Rattle.std.specs.declared.alloc.AllocError.{AllocError}
use Rattle.flat_model.specs.Path.{Path}
use Rattle.flat_model.specs.State as model_state
use Rattle.flat_model.specs.File as model_file
use Rattle.flat_model.specs.Command as model
use Rattle.flat_model.specs.Trace as trace
use Rattle.trace_lines.specs.declared.fault.TextFault.{TextFault}
use Rattle.trace_lines.specs.declared.fault.TextFault.TheVariants as text
use Rattle.trace_lines.specs.LineMeaning.{text_fault_of, Says}

pub fault_for : (m : trace.TextFault) → (f : TextFault) × (text_fault_of f ≡ m)
fault_for trace.BadSyntax = (text.Syntax, refl)
fault_for trace.BadPath = (text.Path, refl)
fault_for trace.BadFile = (text.File, refl)
fault_for trace.BadDirection = (text.Direction, refl)
fault_for trace.BadValue = (text.Value, refl)

pub at_a_path : (e : AllocError) (m : trace.Line) → Says (Err e) m → (p : Path)
    × ((m ≡ trace.Run (model.MakeGroup p)) ⊎ (m ≡ trace.Run (model.RemoveGroup p))
    ⊎ ((pid : ℕ) × (m ≡ trace.Run (model.Move p pid)))
    ⊎ ((file : model_file.LimitFile) × (value : model_state.Limit) × (m ≡ trace.Run (model.SetLimit p file value)))
    ⊎ (m ≡ trace.Run (model.Kill p))
    ⊎ ((file : model_file.File) × (m ≡ trace.Run (model.Show p file))))
at_a_path e trace.Skip h = cc
at_a_path e (trace.Run (model.MakeGroup p)) h = (p, inl refl)
at_a_path e (trace.Run (model.RemoveGroup p)) h = (p, inr (inl refl))
at_a_path e (trace.Run (model.Fork m n)) h = cc
at_a_path e (trace.Run (model.Exit pid)) h = cc
at_a_path e (trace.Run (model.Move p pid)) h = (p, inr (inr (inl (pid, refl))))
at_a_path e (trace.Run (model.SetLimit p file value)) h = (p, inr (inr (inr (inl (file, value, refl)))))
at_a_path e (trace.Run (model.Kill p)) h = (p, inr (inr (inr (inr (inl refl)))))
at_a_path e (trace.Run (model.Show p file)) h = (p, inr (inr (inr (inr (inr (file, refl))))))
at_a_path e (trace.Run (model.Locate pid)) h = cc
at_a_path e (trace.Run model.Undo) h = cc
at_a_path e (trace.Fault f) h = cc
