-- Laws about fields, for the proofs of this crate and of those above it.
pub mod Laws
pub mod Whole
pub mod Words
