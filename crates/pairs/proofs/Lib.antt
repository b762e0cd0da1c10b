-- The argument, one step a file: the walk, and the two rows sorted and walked over.
pub mod Walking
pub mod Filling
