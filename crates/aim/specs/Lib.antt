-- The aim of an item, by the engine's trees.
pub mod Aims
