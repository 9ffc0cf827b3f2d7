pub mod Memories
pub mod Pairs
pub mod Touching
