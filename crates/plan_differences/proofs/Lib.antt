pub mod ComparedEntries
pub mod FilledEntries
pub mod MutualPairs
