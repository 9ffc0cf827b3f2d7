-- Words that only private contracts and proofs cite.
pub mod Marks
pub mod Moving
