pub mod TwoTrips
