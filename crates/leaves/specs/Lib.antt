-- What the functions of `leaves` promise.
pub mod Inside
