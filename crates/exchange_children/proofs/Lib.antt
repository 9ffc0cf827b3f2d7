pub mod ClashTests
pub mod FittedLists
pub mod Givers
pub mod GroupMarks
pub mod PutLists
pub mod SelectedClients
pub mod TidiedLists
