pub mod Numbers
pub mod Items
pub mod Lengths
pub mod Back
pub mod Again
