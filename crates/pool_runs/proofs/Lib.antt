pub mod Runs
pub mod Accounts
pub mod Draws
