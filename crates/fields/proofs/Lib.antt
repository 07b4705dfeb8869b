-- Laws about fields, read and written, and about lists, for the proofs of this crate and of those above it.
pub mod Lists
pub mod Laws
pub mod Readers
pub mod Written
pub mod Packed
pub mod Answer
