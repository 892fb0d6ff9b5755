-- The meaning of a line, the output for a command, and what a replay leaves of its devices.
pub use Rattle.trace_lines.specs.LineMeaning
pub use Rattle.trace_lines.specs.Replied
pub use Rattle.program_io.specs.Device
pub use Rattle.replay_main.specs.WholeInput
pub use Rattle.replay_main.specs.Replayed
pub use Rattle.replay_main.specs.Rehearsed
