pub mod Least
pub mod Divisor
pub mod Modular
pub mod Solved
