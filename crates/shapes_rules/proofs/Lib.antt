-- The laws of shapes, in reading order, and the examples.
pub mod Pins
pub mod Drawing
pub mod Shifted
pub mod Examples
