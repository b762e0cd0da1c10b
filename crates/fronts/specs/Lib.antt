-- What the functions of the front promise, in the model's terms.
pub mod Fronts
