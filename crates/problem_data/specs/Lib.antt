pub mod Limits
pub mod Matrix
pub mod Places
pub mod Reads
pub mod Tables
pub mod Valid
pub mod Visits
