-- Words that only invariants, private contracts and proofs cite.
pub mod Applying
pub mod Searches
