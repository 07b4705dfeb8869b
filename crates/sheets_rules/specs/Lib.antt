-- The two sheets, in reading order.
pub mod Model
pub mod LibrarySheet
pub mod TreeSheet
pub mod TreeWritten
pub mod Reach
pub mod Report
pub mod Examples
pub mod Inside
