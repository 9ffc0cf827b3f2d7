mod MoreReadExamples
mod ReadExamples
pub mod Accepted
pub mod Distinct
pub mod ExampleTexts
pub mod LegTables
pub mod NamedNodes
pub mod OnLiterals
pub mod RowBounds
pub mod SoundLines
pub mod SoundRows
pub mod ValidFleet
pub mod ValidGroups
pub mod ValidLegs
pub mod ValidPlaces
pub mod WholeFacts
