pub use Rattle.outside_model.specs.Files
pub use Rattle.outside_model.specs.Holding
pub use Rattle.outside_model.specs.Sinks
pub mod Faults
pub mod InMemory
pub mod Loads
