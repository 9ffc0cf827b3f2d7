pub mod Growths
pub mod Places
