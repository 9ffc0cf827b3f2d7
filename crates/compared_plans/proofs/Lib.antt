pub mod ComparedItems
pub mod NearNumbers
pub mod NearSteps
