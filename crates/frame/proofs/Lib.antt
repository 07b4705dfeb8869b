-- The laws of `frame`.
pub mod Laws
