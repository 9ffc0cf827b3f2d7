pub mod inside
pub mod PlanCosts
