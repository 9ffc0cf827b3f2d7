pub mod AfterMoves
pub mod PairPlaces
pub mod Touching
