pub mod Exchanges
pub mod inside
pub mod Trials
