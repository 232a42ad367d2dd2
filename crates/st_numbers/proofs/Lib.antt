pub mod GcdLaws
pub mod Comparisons
pub mod Ranges
pub mod WholeNumbers
pub mod ProperAnswers
