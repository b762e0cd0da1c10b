-- What `shelve` prints, with document 01's sample.
pub mod Lines
pub mod Worked
