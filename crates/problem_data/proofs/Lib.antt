pub mod VehicleNumbers
pub mod PlaceVisits
