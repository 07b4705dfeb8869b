-- The laws of `map`.
pub mod Laws
