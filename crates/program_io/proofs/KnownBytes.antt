-- What is known of a device's bytes, read after read and write after write.
use Rattle.std.proofs.Common.{◌∙◌, ℕ, List, Option, Some, None}
use Rattle.std.specs.Io.KnownBytes.{Keeps}
use Rattle.program_io.specs.Device.{TakesFront}

-- a flush behind the last write
pub front_kept : (before mid after : Option (List ℕ)) (bytes rest : List ℕ) → TakesFront before bytes rest mid → Keeps mid after → TakesFront before bytes rest after
front_kept None mid after bytes rest w k = tt
front_kept (Some xs) None after bytes rest w k = absurd w
front_kept (Some xs) (Some ys) None bytes rest w k = absurd k
front_kept (Some xs) (Some ys) (Some zs) bytes rest w k = (w.0, w.1, k ∙ w.2)
