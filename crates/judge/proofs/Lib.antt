-- The laws of `judge`, in reading order.
pub mod Stored
pub mod Entering
pub mod Taking
pub mod Stepping
pub mod Walking
pub mod Judged
