pub mod Gaps
pub mod inside
pub mod Laws
pub mod Lending
pub mod Marks
pub mod Routes
pub mod Views
