pub mod ThreeClients
pub mod ThreeTypes
pub mod TwoTrips
pub mod TwoVehicles
