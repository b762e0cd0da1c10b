-- The trees as an index over the ledger: numbers only, and no model.
pub mod Trees
pub mod Shown
