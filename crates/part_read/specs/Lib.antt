-- What the functions of `part_read` promise.
pub mod Inside
