pub mod Counting
pub mod Crossings
pub mod MarkedClients
pub mod OrderedDirections
pub mod SelectedClients
pub mod SettledShifts
pub mod Vectors
