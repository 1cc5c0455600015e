pub mod Decimal
pub mod Faults
pub mod Formulas
pub mod Hexadecimal
pub mod Lines
pub mod Listed
pub mod Words
