-- Why the second pass follows the model: the turns of the two productions.
pub mod Going
