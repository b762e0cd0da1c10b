-- The argument, one step a file.
-- One item placed by the tree, and all of them.
pub mod Placing
pub mod Packing
-- The two together.
pub mod Filling
