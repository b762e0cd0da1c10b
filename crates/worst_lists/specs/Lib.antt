-- The worst lists, and what is proved of them. The argument is in ../proofs.
pub mod Lists
pub mod Streams
pub mod EveryK
