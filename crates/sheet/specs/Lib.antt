-- The vault sheet of a stream: its definition, what is promised of it, worked sheets, and what the functions that print it promise to each other.
pub mod Sheet
pub mod Claims
pub mod Writing
pub mod Worked
