pub mod JoinedRises
pub mod OneDescent
pub mod OrderedPlaces
