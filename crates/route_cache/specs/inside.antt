-- Words that only invariants, private contracts and proofs cite.
pub mod Kept
pub mod Lookups
pub mod Passes
pub mod Shapes
pub mod Tables
