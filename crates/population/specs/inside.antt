-- Words that only invariants, private contracts and proofs cite.
pub mod Scores
pub mod Seconds
