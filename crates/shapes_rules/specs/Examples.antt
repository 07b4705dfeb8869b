-- Shapes read from bytes, as examples.
pub mod Shapes
