-- Each promise is a theorem of packing, of alike or of worst_case.
pub mod OfAccepted
pub mod Promises
