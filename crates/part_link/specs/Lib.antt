-- What the functions of `part_link` promise.
pub mod Inside
