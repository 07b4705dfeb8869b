-- What the functions of `matching` promise.
pub mod Inside
