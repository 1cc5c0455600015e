pub mod Paired
pub mod Made
pub mod Split
