pub mod CoefficientRing
pub mod Derived
pub mod EitherRing
pub mod Within
pub mod Pair
