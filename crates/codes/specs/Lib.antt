-- The numbers that results are for C and Rust.
pub mod Codes
