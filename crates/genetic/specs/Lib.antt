pub use Rattle.genetic_model.specs.Run
pub use Rattle.random_descents.specs.Rises
pub mod Found
pub mod inside
