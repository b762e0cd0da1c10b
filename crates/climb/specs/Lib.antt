-- What a store promises.
pub mod Stored
