-- What the call over both passes promises, in the model's terms.
pub mod Recorded
