-- The laws of `leaves`.
pub mod Symbols
