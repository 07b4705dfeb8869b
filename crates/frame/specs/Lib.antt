-- The frame of an input, and the lines that refuse one.
pub mod Framed
pub mod Inside
