-- The laws that the call over both passes rests on: the verdict; what the second pass returns. For the crates above: Shelved, what the call leaves.
pub mod Verdicts
pub mod Ran
pub mod Shelved
