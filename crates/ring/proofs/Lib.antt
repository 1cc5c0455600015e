pub mod Withins
pub mod RingFacts
pub mod PairCodes
pub mod PairSides
pub mod PairMultiples
pub mod PairAnswers
pub mod PairLaws
