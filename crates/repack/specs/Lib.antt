-- What the parts of a repacking promise to each other: what the tree shows of the bins, what is packed so far.
pub mod Shown
pub mod Packed
