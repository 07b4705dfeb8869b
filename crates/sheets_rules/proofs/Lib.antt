-- The laws of the two sheets, in reading order.
pub mod Laid
pub mod Rows
pub mod Tables
pub mod LibrarySheet
pub mod Report
pub mod Results
pub mod Examples
pub mod Sound
pub mod Patterns
pub mod TreeWritten
pub mod Stored
