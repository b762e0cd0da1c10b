-- The laws that the core rests on.
pub mod Steps
pub mod Checking
