pub mod Alike
pub mod StopLengths
pub mod TripLoads
pub mod Walking
pub mod Starts
pub mod Standing
pub mod BoundedSums
pub mod Bounds
