pub mod inside
pub mod Populations
