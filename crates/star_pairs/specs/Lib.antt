pub mod BestPairs
pub mod inside
