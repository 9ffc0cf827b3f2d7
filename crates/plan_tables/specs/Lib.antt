pub mod Figures
pub mod inside
pub mod Routes
pub mod Spots
pub mod Tables
pub mod Unused
