-- What a numbered walk over the entries and their items has yielded.
pub mod Numbered
