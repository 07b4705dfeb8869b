-- The laws of `part_link`.
pub mod Trees
