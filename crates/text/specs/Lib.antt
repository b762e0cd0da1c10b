-- Lines of text, and what it is to write one into a row of bytes.
pub mod Lines
pub mod Writing
