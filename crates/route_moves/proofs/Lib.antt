pub mod ClientLists
pub mod CutLists
pub mod StarCosts
pub mod StarMoves
pub mod StarReads
pub mod TurnedLists
pub mod WholeMoves
