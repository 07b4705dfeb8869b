-- The laws of `choosing`, in reading order.
pub mod Reading
pub mod Gate
pub mod Below
