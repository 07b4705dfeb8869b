-- What the functions of `judge` promise.
pub mod Inside
