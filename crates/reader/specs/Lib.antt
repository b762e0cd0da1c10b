-- What the reader promises, in the model's terms.
pub mod Reading
pub mod Items
