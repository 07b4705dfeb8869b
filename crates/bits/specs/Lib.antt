-- Bits, fields and the ends of sheets.
pub mod Bits
pub mod Inside
