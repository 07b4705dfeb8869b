-- Numbers and lines as text.
pub mod Text
pub mod Inside
