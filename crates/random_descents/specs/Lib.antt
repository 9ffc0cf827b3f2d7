pub use Rattle.genetic_model.specs.RandomDescent
pub mod Rises
pub mod Shared
