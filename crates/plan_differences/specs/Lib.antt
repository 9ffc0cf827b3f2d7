pub mod inside
pub mod Beside
pub mod Laws
