pub mod Answered
pub mod Orders
pub mod Printed
