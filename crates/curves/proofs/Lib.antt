-- Laws about curves in the work area, for the proofs of this crate and of those above it.
pub mod Laws
pub mod Frames
pub mod Lasting
