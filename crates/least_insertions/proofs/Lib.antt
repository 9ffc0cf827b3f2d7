pub mod BestPlaces
pub mod FoldedPlans
pub mod Growths
pub mod InsertedLists
pub mod PlaceCosts
pub mod SoundLists
pub mod UnusedVehicles
pub mod VisitedClients
