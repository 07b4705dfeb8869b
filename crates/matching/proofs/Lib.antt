-- The laws of `matching`, in reading order.
pub mod Crossings
pub mod Patterns
