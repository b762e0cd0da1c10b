-- Items each of which goes into the last bin or into a new one: what a run makes of them.
pub mod Onward
pub mod Sent
-- The plan fits, and the stream is read as what is sent.
pub mod Planned
pub mod Streams
-- The lists, computed all at once; and what follows for every k.
pub mod Table
pub mod EveryK
