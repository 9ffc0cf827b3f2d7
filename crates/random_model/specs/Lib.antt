pub use Rattle.vrp_num.specs.Orders
pub use Rattle.routing_model.specs.Routes
pub mod Draws
pub mod Groups
pub mod Laws
pub mod RandomSolution
