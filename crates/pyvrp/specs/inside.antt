-- Words that only contracts and proofs inside the crate cite.
pub mod Asked
pub mod Options
pub mod Report
pub mod Texts
