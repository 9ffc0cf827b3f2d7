pub mod Plans
pub mod Proposals
pub mod inside
