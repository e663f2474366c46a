-- The definitions that the contracts of the audit's kinds and counts cite.
-- Assumes nothing: it declares the modules.
pub mod Tally
pub mod Year
