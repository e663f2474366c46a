-- What the crates above cite.
pub mod Machine
pub mod FieldLaws
pub mod Names
pub mod Exact
mod Examples
