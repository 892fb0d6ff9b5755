mod NodeBoxes
mod Calls
pub mod Parents
mod NameSearch
mod Children
mod Walk
mod NamesBelow
mod ChildEdits
mod NodeSteps
mod NodeInsertion
mod NodeAttributes
mod NodeRemoval
mod PathMaps
mod NameNumbers
mod ParentClosure
mod NodeCounts
mod Descendants
mod Chains
mod NodeCopies
pub mod Flat
pub mod GroupPrefixes
mod InPlace
