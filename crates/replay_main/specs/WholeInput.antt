-- What reading a whole trace leaves of a source, if it exposes its bytes.
use Rattle.std.specs.Prelude.{◌≡◌, ℕ, ◌≤◌, ◌<◌, List, length, Option, Some, None, Result, Ok, Err, Bool, true, false}
use Rattle.std.specs.declared.vec.Vec.{Vec}
use Rattle.std.specs.declared.alloc.Global.{Global}
use Rattle.flat_model.specs.Trace.{trace_max}
use Rattle.program_io.specs.Device.{IsInput}
use Rattle.replay_main.specs.declared.fault.ReplayFault.{ReplayFault}
use Rattle.replay_main.specs.declared.fault.ReplayFault.TheVariants.{Read, Write, InputTooLong, OutOfMemory, Close}

-- the source had more bytes than a trace may have, if it exposes them
abbrev pub IsTooLong : Option (List ℕ) → Type 0
IsTooLong None = Unit {0}
IsTooLong (Some left) = trace_max < length left

-- all bytes were read; otherwise why not
abbrev pub WholeRead : Option (List ℕ) → Bool → Result (Vec ℕ Global) ReplayFault → Type 0
WholeRead left failed (Ok v) = (failed ≡ false) × (length v.items ≤ trace_max) × IsInput left v.items
WholeRead left failed (Err Read) = failed ≡ true
WholeRead left failed (Err InputTooLong) = (failed ≡ false) × IsTooLong left
WholeRead left failed (Err OutOfMemory) = failed ≡ false
WholeRead left failed (Err Write) = ⊥
WholeRead left failed (Err Close) = ⊥
