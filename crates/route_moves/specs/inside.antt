-- Words that only private contracts and proofs cite.
pub mod Stars
pub mod Swings
pub mod Wholes
