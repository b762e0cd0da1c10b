-- Numbers in fields of a width.
pub mod Fields
