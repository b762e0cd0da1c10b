-- What the tournament tree is and what its calls promise: its shape, the row it stands in, first fit, the descent.
pub mod Shapes
pub mod Trees
pub mod LowestFit
pub mod Descent
pub mod Looking
