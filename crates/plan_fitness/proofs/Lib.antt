pub mod FallingRanks
pub mod Ranks
pub mod WeighedSums
