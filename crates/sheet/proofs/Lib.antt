-- The laws that the sheet rests on, the proofs of its claims, and the worked sheets.
pub mod Both
pub mod Theorems
pub mod Ledgers
pub mod Shelved
pub mod Worked
