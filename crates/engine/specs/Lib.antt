-- The engine's state, the packing that it represents, and what a step promises.
pub mod Store
pub mod Spots
pub mod Done
