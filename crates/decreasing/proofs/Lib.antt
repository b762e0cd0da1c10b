-- The argument, one step a file, each resting on those above it. A bin is from Filling on the list of its sizes, the last item first, and c the capacity.
-- The answers, as they are written.
pub mod Naming
pub mod Written
-- The bins: first fit one item at a time and over a run, and how many bins there are.
pub mod Lists
pub mod Filling
pub mod Running
pub mod Repacked
pub mod Bound
pub mod ThreeHalves
-- The plan that the answers make, and what is promised.
pub mod Loads
pub mod NewLoads
pub mod Plans
pub mod Promises
pub mod OwnShelf
