pub mod Ceiling
pub mod Limits
pub mod Printed
pub mod Refusals
