-- The argument, one step a file, each resting on those above it. A bin is here the list of its sizes, the last item first, and c the capacity.
-- Plans: the checker is exact, and what a plan that passes weighs.
pub mod Lists
pub mod PlanFits
pub mod Weighing
-- The plan of a packing's own answers.
pub mod BinLoads
pub mod OwnPlan
-- Lists of sizes that first fit made, without the model: how many, and how full.
pub mod Above
pub mod Used
pub mod Charges
pub mod Halves
pub mod Thirds
pub mod Sixths
pub mod Pairing
-- The invariant of Refined First-Fit, class by class, and that every item placed keeps it.
pub mod FirstFit
pub mod ByBounds
pub mod OneKind
pub mod ClassOne
pub mod EveryMth
pub mod InClass
pub mod FourClasses
pub mod Targets
pub mod Invariant
-- From the invariant and the weighings to the counts, and from these to the bound.
pub mod Lone
pub mod ClassFour
pub mod Arithmetic
pub mod Bound
-- Demand 3, and that the constant 5 is exact.
pub mod TraceBound
pub mod WorstCase
pub mod WorstCaseOfStream
pub mod ExactFive
