-- Words that only invariants, private contracts and proofs cite.
pub mod Directions
pub mod Marking
pub mod Measuring
