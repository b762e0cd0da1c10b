-- Why a withdrawal is the model's.
pub mod Ways
