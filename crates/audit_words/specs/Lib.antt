-- The definitions that the contracts of the audit's pieces cite.
-- Assumes nothing: it declares the modules.
pub mod Within
