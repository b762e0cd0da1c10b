-- What the contracts of the core cite, beside the model.
pub mod Loads
