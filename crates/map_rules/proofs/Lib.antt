-- The laws of `map_rules`.
pub mod Laws
pub mod Examples
