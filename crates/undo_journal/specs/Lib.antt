pub mod CommandMeaning
pub mod ReplyBytes
pub mod Answer
pub mod Beginning
pub mod Headline
pub mod History
pub mod Slots
pub mod Timeline
