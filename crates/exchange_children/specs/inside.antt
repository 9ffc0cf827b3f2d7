-- Words that only invariants, private contracts and proofs cite.
pub mod Clashing
pub mod Fitting
pub mod Givers
pub mod Tidying
