pub mod inside
pub mod Weighted
