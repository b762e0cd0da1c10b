-- Repacking a closed shelf (document 02, point 10) by First-Fit-Decreasing (document 000, section 2): the packing, what the call gives, and what is promised
-- of it. The items of a row and their order are those of crate ordering; the argument is in ../proofs.
pub mod Repack
pub mod Written
pub mod Claims
pub mod Worked
