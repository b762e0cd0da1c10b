-- What the ledger's rows and notes say of the packing that they record, before an item is entered, taken out or settled, and after.
pub mod Chosen
pub mod Entering
pub mod Offering
pub mod Few
pub mod Noting
pub mod Holder
pub mod Leaving
pub mod Settling
pub mod Rows
pub mod Counting
pub mod Empty
