pub mod Worked
pub mod Readings
pub mod Errors
