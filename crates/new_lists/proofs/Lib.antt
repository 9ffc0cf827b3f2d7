pub mod ImprovedLists
pub mod LaidViews
pub mod ListAnswers
pub mod MadeLists
pub mod NewViews
