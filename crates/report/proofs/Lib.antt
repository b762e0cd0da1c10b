-- The laws of the whole text, and the worked texts.
pub mod Texts
pub mod Worked
