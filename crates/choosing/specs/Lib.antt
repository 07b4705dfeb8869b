-- What the functions of `choosing` promise.
pub mod Inside
