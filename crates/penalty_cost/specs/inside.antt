-- Words that only invariants, private contracts and proofs cite.
pub mod Counts
pub mod Excess
pub mod ProposedSides
pub mod Sides
pub mod Totals
pub mod VisitSums
