-- Why a stretch follows the model: the commands one after another.
pub mod Stretching
