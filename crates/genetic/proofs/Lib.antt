pub mod AddedPlans
pub mod DescendedRuns
pub mod FreePlans
pub mod LeftIterations
pub mod RunSteps
pub mod WholeRun
