-- Words that only contracts and proofs inside the crate cite.
pub mod Lines
