pub mod BestLaws
pub mod BestSwaps
pub mod SplitLists
pub mod TurnChanges
