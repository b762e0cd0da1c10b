-- All that is promised of an accepted stream beside its words and its result.
pub mod Promises
