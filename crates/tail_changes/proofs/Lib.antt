pub mod NoTails
pub mod TailChanges
pub mod TailLists
pub mod TailMoved
pub mod TailReads
pub mod TakenLists
