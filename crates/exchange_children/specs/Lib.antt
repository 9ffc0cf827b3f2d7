pub mod inside
pub mod Exchanges
