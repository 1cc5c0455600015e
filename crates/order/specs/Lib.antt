pub mod Term
pub mod TermLaws
pub mod TermOrder
pub mod Keys
pub mod Differences
