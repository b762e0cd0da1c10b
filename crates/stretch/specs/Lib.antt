-- What a stretch of one production may assume, and what it leaves.
pub mod Words
pub mod Stretches
