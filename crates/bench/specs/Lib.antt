pub mod Lines
pub mod PrintedRuns
pub mod Words
