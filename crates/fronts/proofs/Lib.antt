-- The laws that the front rests on: a lookup in the table, row by row; an operand, byte by byte.
pub mod Lookup
pub mod Operands
