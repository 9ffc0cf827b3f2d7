pub mod KeptCosts
pub mod Purged
