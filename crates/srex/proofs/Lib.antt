pub mod Children
pub mod DrawnExchanges
pub mod Orders
pub mod SelectedRoutes
