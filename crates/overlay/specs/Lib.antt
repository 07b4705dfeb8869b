-- What the functions of `overlay` promise.
pub mod Inside
