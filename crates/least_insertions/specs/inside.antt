-- Words that only invariants, private contracts and proofs cite.
pub mod Places
pub mod Types
pub mod Visited
