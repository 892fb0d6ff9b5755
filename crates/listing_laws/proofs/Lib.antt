mod InOrder
mod AllGroups
mod Members
mod Order
mod DepthBounds
mod EngineAnswers
