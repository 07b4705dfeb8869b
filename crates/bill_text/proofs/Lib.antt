-- The laws of `bill_text`, in reading order.
pub mod Laws
pub mod Stored
