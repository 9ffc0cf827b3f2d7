pub mod Improvements
pub mod Moves
pub mod NewLists
pub mod Reads
pub mod Views
