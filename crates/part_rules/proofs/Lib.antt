-- The laws of `part_rules`, in reading order.
pub mod Linked
pub mod Outcomes
pub mod Known
pub mod Trees
pub mod Links
pub mod Running
pub mod Accepted
pub mod Demands
pub mod Fronts
pub mod DriveZero
