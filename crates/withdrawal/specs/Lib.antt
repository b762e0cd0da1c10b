-- What the withdrawal asks of the store.
pub mod Lying
