-- The ledger's rows and notes, the packing that they record, what entering an item, taking one out and settling one do to them, what the count reads in
-- them, and what a row offers to an item.
pub mod Rows
pub mod Records
pub mod Notes
pub mod Entering
pub mod Leaving
pub mod Settling
pub mod Counting
pub mod Offers
