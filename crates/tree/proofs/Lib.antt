-- The laws of `tree`.
pub mod Whole
