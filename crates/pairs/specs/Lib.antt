-- What the parts of a pairing promise to each other.
pub mod Walked
