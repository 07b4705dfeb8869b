-- What the functions of `functions` promise.
pub mod Inside
