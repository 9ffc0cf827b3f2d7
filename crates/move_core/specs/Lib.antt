pub mod inside
pub mod Looks
pub mod Operators
pub mod Searches
