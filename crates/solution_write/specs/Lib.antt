pub use Rattle.problem_data.specs.Places
pub use Rattle.vrp_texts.specs.Printed
pub mod inside
