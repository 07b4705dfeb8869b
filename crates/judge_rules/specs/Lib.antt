-- The judge of covers, in reading order.
pub mod Walk
pub mod Places
pub mod Judgement
pub mod Demands
pub mod DriveZero
pub mod Public
pub mod Inside
