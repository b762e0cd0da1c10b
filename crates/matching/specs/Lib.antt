-- Picture and sound together (document 02, point 11) by Algorithm PM (document 000): the pairs, what the call gives, and what is promised of it. The
-- argument is in ../proofs.
pub mod Pairs
pub mod Written
pub mod Claims
pub mod Worked
