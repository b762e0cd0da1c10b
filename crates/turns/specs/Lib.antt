-- What the second pass may assume and what it leaves: of the turns that the two productions take, and of the whole.
pub mod Running
pub mod Turns
