-- What is proved of the model in this crate: statements only, one theorem a file. The argument is in ../proofs.
pub mod PlanFits
pub mod OwnPlan
pub mod WorstCase
pub mod ExactFive
