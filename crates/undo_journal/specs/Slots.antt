-- The number of groups of an engine that counts by a plain meter.
use Rattle.std.specs.Prelude.{ℕ}
use Rattle.pids_charge.specs.declared.plain.TheConstants.{SLOTS}

-- the number of groups other than the root: as many as the meter has slots
abbrev pub slots : ℕ
slots = SLOTS
