-- The laws of `overlay`, in reading order, for the proofs of this crate and of those above it.
pub mod Walking
pub mod Standing
pub mod Measuring
pub mod Patterns
pub mod Sheets
