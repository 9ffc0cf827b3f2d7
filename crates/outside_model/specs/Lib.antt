pub mod Delivery
pub mod Files
pub mod Holding
pub mod Sinks
