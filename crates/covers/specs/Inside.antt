-- What functions inside promise each other, and what the laws about them speak of.
pub mod Curve
pub mod Allowed
