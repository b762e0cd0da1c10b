-- The laws that the reader rests on: the opening, its width and its operands.
pub mod Openings
pub mod Items
