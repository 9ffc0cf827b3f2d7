-- Words that only invariants, private contracts and proofs cite.
pub mod Lents
pub mod Pieces
pub mod Seats
