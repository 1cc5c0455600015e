pub mod Polynomial
pub mod Combination
pub mod Basis
pub mod Criterion
pub mod Laws
