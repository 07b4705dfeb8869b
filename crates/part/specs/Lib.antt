-- What the functions of `part` promise.
pub mod Inside
