-- The definitions that the contracts of this crate, and the crates above, cite.
pub mod Put
pub mod Out
pub mod Digits
pub mod Answer
pub mod Refusal
pub mod Walk
pub mod Inverse
