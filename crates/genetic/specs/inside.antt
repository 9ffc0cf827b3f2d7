-- Words that only private contracts, invariants and proofs cite.
pub mod Runs
