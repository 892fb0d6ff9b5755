-- The arguments of a program.
use Rattle.std.specs.Prelude.{◌≡◌, ◌≢◌, Result, Ok, Err}
use Rattle.std.specs.Vec.Iter.{into_iter_steps}
use Rattle.std.specs.Iterator.{Drains}
use Rattle.std.specs.IoError.{error_kind}
use Rattle.std.specs.declared.alloc.Global.{Global}
use Rattle.std.specs.declared.io.Error.{Error}
use Rattle.std.specs.declared.io.ErrorKind.TheVariants as io_kind
use Rattle.std.specs.declared.string.String.{String}
use Rattle.std.specs.declared.vec.IntoIter.{IntoIter}
use Rattle.std.specs.declared.vec.Vec.{Vec}
use Rattle.program_io.specs.declared.arguments.LineFault.{LineFault}
use Rattle.program_io.specs.declared.arguments.LineFault.TheVariants.{Bad, OutOfMemory}

-- the arguments; otherwise out of memory, or an argument is not text
abbrev pub Collects : Result (IntoIter (String Global) Global) Error → Result (Vec (String Global) Global) LineFault → Type 0
Collects (Ok args) (Ok v) = Drains into_iter_steps args v.items
Collects (Ok args) (Err Bad) = ⊥
Collects (Ok args) (Err OutOfMemory) = Unit {0}
Collects (Err e) (Ok v) = ⊥
Collects (Err e) (Err Bad) = error_kind e ≢ io_kind.OutOfMemory
Collects (Err e) (Err OutOfMemory) = error_kind e ≡ io_kind.OutOfMemory
