pub mod inside
pub mod Marks
pub mod Rings
pub mod Selections
