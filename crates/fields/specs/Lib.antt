-- The words of every sheet and of every answer, in reading order.
pub mod Reading
pub mod Written
pub mod Answer
pub mod Inside
