pub mod ApartLaws
pub mod NearSpots
pub mod OverLegs
pub mod SmallGrowths
pub mod ThreeLaws
