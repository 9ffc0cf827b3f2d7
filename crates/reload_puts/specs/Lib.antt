pub mod inside
pub mod PutLists
pub mod Puts
pub mod Seats
