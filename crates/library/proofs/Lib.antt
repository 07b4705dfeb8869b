-- The laws of `library`, in reading order.
pub mod Laws
pub mod Whole
