-- Why the tree that is searched is the model's target, and the phase the model's count.
pub mod Aiming
