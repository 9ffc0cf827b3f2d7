pub mod GroupSwaps
pub mod InPlace
pub mod PutIn
pub mod TakenOut
pub mod TestedMoves
pub mod VisitedMembers
