-- Why a settling follows the model.
pub mod Ways
