pub mod Terms
pub mod Keys
pub mod Compared
pub mod Orders
pub mod Differences
