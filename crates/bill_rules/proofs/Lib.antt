-- The laws of `bill_rules`, in reading order.
pub mod Counting
pub mod Entries
pub mod Fixed
pub mod Accepted
pub mod Text
pub mod Demands
