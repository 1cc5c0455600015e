pub mod Packing
pub mod PackedOrders
pub mod Listed
