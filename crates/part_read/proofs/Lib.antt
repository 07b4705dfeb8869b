-- The laws of `part_read`.
pub mod Laws
pub mod Links
