-- Why the figures fit, and that the numbers give the results back.
pub mod Figures
pub mod Places
pub mod Counts
pub mod Back
