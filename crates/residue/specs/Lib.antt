pub mod Made
pub mod Residues
pub mod Clock
