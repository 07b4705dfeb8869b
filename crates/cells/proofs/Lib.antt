-- The laws of `cells`.
pub mod Laws
