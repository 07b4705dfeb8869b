-- Shapes, and shapes in a sheet, in reading order.
pub mod Shape
pub mod Drawing
pub mod Examples
