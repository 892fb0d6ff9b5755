-- A fault of the path, then one of the action, and out of memory last.
use Rattle.std.proofs.Common.{◌≡◌, true, [], ◌∷◌, refl, ap, sym, ◌∙◌, subst, Result, Ok, Err}
use Rattle.std.specs.Result.{IsOk}
use Rattle.std.specs.declared.alloc.Global.{Global}
use Rattle.flat_model.specs.Refuse.{and_then}
use Rattle.flat_model.specs.Path.{Path}
use Rattle.flat_model.specs.Command as model
use Rattle.flat_model.specs.Trace as trace
use Rattle.undo_journal.specs.declared.command.Command.{Command}
use Rattle.trace_lines.specs.declared.action.Action.{Action}
use Rattle.trace_lines.specs.declared.action.Action.TheVariants.{Move, SetLimit, Kill, Show}
use Rattle.trace_lines.specs.declared.fault.TextFault.{TextFault}
use Rattle.trace_lines.specs.declared.fault.TextFault.TheVariants as text
use Rattle.trace_lines.specs.declared.fault.Unread.{Unread}
use Rattle.trace_lines.specs.declared.fault.Unread.TheVariants as unread
use Rattle.trace_lines.specs.Action.{command_at, action_at, ReadsAction}
use Rattle.trace_lines.specs.LineMeaning.{text_fault_of, has_path, is_at_path, ReadsCommand}

abbrev fault_from : trace.TextFault → TextFault
fault_from trace.BadSyntax = text.Syntax
fault_from trace.BadPath = text.Path
fault_from trace.BadFile = text.File
fault_from trace.BadDirection = text.Direction
fault_from trace.BadValue = text.Value

from_of : (f : TextFault) → fault_from (text_fault_of f) ≡ f
from_of text.Syntax = refl
from_of text.Path = refl
from_of text.File = refl
from_of text.Direction = refl
from_of text.Value = refl

abbrev fault_in : TextFault → Result model.Command trace.TextFault → TextFault
fault_in d (Ok c) = d
fault_in d (Err t) = fault_from t

pub only_fault : (r : Result (Command Global) Unread) (f : TextFault) → ReadsCommand r (Err (text_fault_of f)) → r ≡ Err (unread.Fault f)
only_fault (Ok c) f h = cc
only_fault (Err (unread.Fault g)) f h = ap (λ (x : TextFault). Err (unread.Fault x)) (sym (sym (from_of f) ∙ ap (fault_in f) h ∙ from_of g))
only_fault (Err unread.OutOfMemory) f h = cc

-- the path of a command that has one
abbrev path_of : model.Command → Path
path_of (model.MakeGroup p) = p
path_of (model.RemoveGroup p) = p
path_of (model.Fork m n) = []
path_of (model.Exit pid) = []
path_of (model.Move p pid) = p
path_of (model.SetLimit p file value) = p
path_of (model.Kill p) = p
path_of (model.Show p file) = p
path_of (model.Locate pid) = []
path_of model.Undo = []

path_at : (p : Path) (a : Action) → path_of (command_at p a) ≡ p
path_at p (Move pid) = refl
path_at p (SetLimit file value) = refl
path_at p Kill = refl
path_at p (Show file) = refl

has_at : (p : Path) (a : Action) → has_path (command_at p a) ≡ true
has_at p (Move pid) = refl
has_at p (SetLimit file value) = refl
has_at p Kill = refl
has_at p (Show file) = refl

abbrev path_in : Result model.Command trace.TextFault → Path
path_in (Ok c) = path_of c
path_in (Err t) = []

pub only_memory : (a : Action) (r : Result (Command Global) Unread) → ReadsAction (Err unread.OutOfMemory) (Ok a) r → r ≡ Err unread.OutOfMemory
only_memory a (Ok c) h =
    let here = ap path_in (h (Ok []) refl) in
    let there = ap path_in (h (Ok ([] ∷ [])) refl) in
    let e = sym (path_at [] a) ∙ here ∙ sym there ∙ path_at ([] ∷ []) a in cc
only_memory a (Err (unread.Fault f)) h = let e = h (Ok []) refl in cc
only_memory a (Err unread.OutOfMemory) h = refl

reads_at_path : (a : Action) (m : Result Path trace.TextFault) → IsOk m → is_at_path (and_then m (λ p. action_at p (Ok a))) ≡ true
reads_at_path a (Ok p) h = has_at p a
reads_at_path a (Err t) h = cc

pub memory_last : (a : Action) (r : Result (Command Global) Unread) → r ≡ Err unread.OutOfMemory → ReadsAction (Err unread.OutOfMemory) (Ok a) r
memory_last a r e = subst (λ (x : Result (Command Global) Unread). ReadsAction (Err unread.OutOfMemory) (Ok a) x) (sym e) (λ m h. reads_at_path a m h)
