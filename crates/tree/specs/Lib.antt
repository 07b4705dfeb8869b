-- What the functions of `tree` promise.
pub mod Inside
