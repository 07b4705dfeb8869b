-- The laws of `map_core`, in reading order.
pub mod Root
pub mod Points
pub mod Core
