-- Laws about readers, for the proofs of this crate and of those above it.
pub mod Laws
pub mod Marks
pub mod Drawn
pub mod Driven
pub mod Steps
pub mod Nodes
pub mod Wholes
pub mod Sizes
