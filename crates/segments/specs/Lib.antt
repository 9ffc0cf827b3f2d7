pub mod Bounds
pub mod Distance
pub mod Duration
pub mod Laws
pub mod Load
pub mod Totals
pub mod inside
