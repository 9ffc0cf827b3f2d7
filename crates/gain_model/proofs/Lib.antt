pub mod AlikeEdits
pub mod AlikePlans
pub mod BasisEnough
mod BoundExamples
pub mod ChangedLists
mod GainExamples
pub mod KeptEnough
pub mod KeptTable
pub mod LeastChanges
pub mod LeastGrowths
pub mod LeastPairs
pub mod LeastPlaces
pub mod ListsOfPlans
pub mod OtherLists
mod PlaceExamples
pub mod SameBases
pub mod SameChanges
pub mod SameMoves
pub mod StandsOnce
pub mod TakenClients
pub mod TakenMoves
pub mod TakenNodes
pub mod TakenRoutes
pub mod TakenTails
pub mod ThreePlaces
pub mod UntouchedTries
pub mod Ways
pub mod OperatorAnswers
pub mod ProposedMoves
pub mod NewLists
