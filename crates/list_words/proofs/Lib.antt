pub mod Sorting
