pub mod Readings
pub mod Errors
