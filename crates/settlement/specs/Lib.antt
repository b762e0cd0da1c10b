-- An item that waits for its size, by its note.
pub mod Waiting
