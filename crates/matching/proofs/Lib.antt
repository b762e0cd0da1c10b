-- The argument, one step a file, each resting on those above it. c is the capacity.
-- The pairs: one sound after the other; items of the two rows that fit together, none of them twice.
pub mod Steps
pub mod Matched
-- No pairing has more: a figure that bounds every pairing, and that the pairs reach.
pub mod Cover
pub mod Threshold
-- The answers, by the pairs and as they are written.
pub mod Answers
pub mod Written
pub mod Promises
