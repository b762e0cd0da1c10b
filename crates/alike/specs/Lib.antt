-- Lists of commands and streams beside others, and what is the same of both: without the refused commands, with one production's replaced, with and
-- without a trailer, by either opening.
pub mod LeftOut
pub mod Independent
pub mod Openings
pub mod Claims
