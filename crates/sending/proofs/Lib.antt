-- What a fault, and the least that is noted, say of a command.
pub mod Sent
