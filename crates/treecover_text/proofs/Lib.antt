-- The laws of `treecover_text`, in reading order.
pub mod Laws
pub mod Reading
pub mod Outcome
pub mod Examples
