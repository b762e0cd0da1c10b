-- The laws that the lines of answers rest on: how long one is, and the walk over the commands.
pub mod Lengths
pub mod Listing
pub mod Beside
