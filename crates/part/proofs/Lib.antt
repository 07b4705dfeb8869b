-- The laws of `part`.
pub mod Laws
pub mod Trees
pub mod Sheets
pub mod Replies
