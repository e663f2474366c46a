-- What several proofs, and the crates above, cite.
pub mod Tests
pub mod OutLaws
pub mod DigitLaws
pub mod NumberLaws
pub mod Answers
pub mod Quoted
mod Examples
