-- Words that only invariants, private contracts and proofs cite.
pub mod OfText
pub mod Stands
pub mod Steps
