-- The mathematics of the tournament tree; the laws of first fit and of leaves are for the crates above too.
pub mod Powers
pub mod Fits
pub mod Leaves
pub mod Empty
pub mod Halves
