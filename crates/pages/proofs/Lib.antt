-- The laws that the pages rest on, and the proofs of what is promised of them.
pub mod Legible
pub mod Lined
pub mod Entries
pub mod Listing
pub mod Bins
pub mod Ledgers
pub mod Forty
pub mod Worked
