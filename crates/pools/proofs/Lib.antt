pub mod Moves
pub mod Stacks
pub mod Rings
pub mod Fills
