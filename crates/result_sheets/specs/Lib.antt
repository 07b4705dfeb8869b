-- The cover sheet and the list sheet in their records, and as they are written.
pub mod Public
pub mod Inside
