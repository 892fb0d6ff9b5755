-- That a session may cross threads: who hands one to a thread cites it.
pub use Rattle.sessions.proofs.SessionCrosses
