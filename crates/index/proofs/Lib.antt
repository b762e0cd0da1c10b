-- Why the trees index the ledger: a row is shown at its place, and so the index follows the ledger.
pub mod Forests
pub mod Showing
pub mod Indexing
