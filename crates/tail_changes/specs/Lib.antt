pub mod inside
pub mod Reloading
pub mod Tails
