-- What a count hands back after a stream, in each production.
pub mod After
