pub mod AddedPlans
pub mod ScoredPlans
pub mod SecondParents
pub mod SelectedPlans
