-- What the functions of `shapes` promise.
pub mod Inside
