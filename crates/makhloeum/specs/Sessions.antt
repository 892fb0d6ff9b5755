-- What a session leaves of each command, and what a desk and its closing are.
pub use Rattle.sessions.specs.SessionMeaning
pub use Rattle.sessions.specs.Receipts
pub use Rattle.sessions.specs.Served
pub use Rattle.sessions.specs.Faults
pub use Rattle.sessions.specs.Desks
