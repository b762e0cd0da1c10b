-- What is told of a command that shelves an item.
pub mod Sent
