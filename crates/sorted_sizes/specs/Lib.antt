-- The words of a row of sizes, and what it is to leave them in order.
pub mod Words
pub mod Sorted
