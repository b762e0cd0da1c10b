-- The pages of the vault sheet: their definition, what is promised of them, worked counts, and what the functions that write them promise to each other.
pub mod Pages
pub mod Claims
pub mod Writing
pub mod Worked
