pub mod Packed
pub mod Orders
pub mod Laws
pub mod EitherOrder
