pub mod Fits
pub mod Called
pub mod Words
pub mod Tables
