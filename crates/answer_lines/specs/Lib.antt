-- The line of an answer, and what the functions that print answers promise to each other.
pub mod Lines
pub mod Writing
