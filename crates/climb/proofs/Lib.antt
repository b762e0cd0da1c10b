-- Why a store leaves a tree: the climb.
pub mod Climb
