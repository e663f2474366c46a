-- The laws of the audit's rows. Assumes nothing: it declares the modules.
pub mod RowLaws
