-- Why the engine follows the model. For the crates above: Empty, the store at the opening.
pub mod States
pub mod Aimed
pub mod Spotted
pub mod Ways
pub mod Empty
