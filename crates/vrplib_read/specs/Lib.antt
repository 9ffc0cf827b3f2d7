pub use Rattle.vrplib_model.specs.Reading
pub mod Outcomes
pub mod inside
