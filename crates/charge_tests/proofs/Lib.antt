mod Apart
mod Groups
pub mod OneHome
mod CallBounds
