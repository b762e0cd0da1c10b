-- The laws that writing rests on: numbers in base ten, how long a line is, and rows of bytes.
pub mod Decimals
pub mod Lengths
pub mod Texts
pub mod Figures
