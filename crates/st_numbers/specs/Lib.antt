pub mod Gcd
pub mod Numbers
pub mod Answers
