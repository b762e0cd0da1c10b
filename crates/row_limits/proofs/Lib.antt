-- The walk over the sizes, one at a time.
pub mod Walked
