-- Each statement of ../specs, shown of every opening and every list of commands, or of every stream.
pub mod Renumbering
pub mod LeftOut
pub mod Independence
pub mod Storing
pub mod Alike
