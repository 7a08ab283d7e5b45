pub mod Ceilings
pub mod FormOrder
