-- A count, which leaves the store.
pub mod Told
