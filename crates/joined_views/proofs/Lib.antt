pub mod BothLists
pub mod LaterLoads
pub mod AlikeTypes
pub mod Folding
pub mod SideRuns
pub mod SideReads
pub mod ViewRuns
