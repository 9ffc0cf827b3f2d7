pub mod Counts
pub mod Descents
pub mod inside
