-- Words that only private contracts and proofs cite.
pub mod Endings
pub mod Lists
pub mod ListsAfter
