pub mod Asked
pub mod Full
pub mod Goes
pub mod WholeRuns
