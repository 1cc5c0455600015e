pub mod Formulas
pub mod Operated
pub mod Texts
