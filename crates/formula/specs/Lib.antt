pub mod Formula
pub mod Polynomial
pub mod Held
pub mod Sum
pub mod Laws
pub mod Text
