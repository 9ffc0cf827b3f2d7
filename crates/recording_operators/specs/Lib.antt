pub mod OwnRuns
