pub mod MadeRoutes
pub mod PlacedRoutes
pub mod SoundSearches
