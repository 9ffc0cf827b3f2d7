pub mod NoGroups
pub mod ThreeClientsAreValid
pub mod ThreeTypesAreValid
pub mod TwoTripsAreValid
pub mod TwoVehiclesAreValid
