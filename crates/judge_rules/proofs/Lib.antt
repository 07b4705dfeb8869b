-- The laws of `judge_rules`, in reading order.
pub mod Order
pub mod Walking
pub mod Fronts
pub mod Sheet
pub mod Places
pub mod Demands
pub mod Bounded
pub mod DriveZero
