-- Parts made of several trees, in reading order.
pub mod Part
pub mod PartSheet
pub mod PartRead
pub mod Outcome
pub mod Demands
pub mod DriveZero
pub mod Public
pub mod Examples
