pub mod Names
pub mod FollowsGrammar
