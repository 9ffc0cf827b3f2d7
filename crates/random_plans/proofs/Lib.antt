pub mod DrawnKeys
pub mod GroupMarks
pub mod RandomPlans
pub mod WalkSteps
