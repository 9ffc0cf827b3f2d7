pub mod inside
pub mod Compared
