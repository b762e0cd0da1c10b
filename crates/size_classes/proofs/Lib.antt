-- Why three choices tell the class.
pub mod Parts
