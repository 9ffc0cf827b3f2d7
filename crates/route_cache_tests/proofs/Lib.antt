pub mod LentRuns
