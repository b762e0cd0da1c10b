-- The words as they are laid; that sorting them is ordering the items; the two together.
pub mod Laying
pub mod Ordering
pub mod InOrder
pub mod Sorting
