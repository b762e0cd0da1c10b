-- The laws that fields rest on.
pub mod Widths
