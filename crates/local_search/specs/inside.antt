-- Words that only invariants, private contracts and proofs cite.
pub mod Kits
pub mod Screens
pub mod Stages
pub mod Turns
