-- Words that only private contracts and proofs cite.
pub mod Folding
pub mod Joined
pub mod Recounts
