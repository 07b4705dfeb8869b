-- What the functions of `curves` promise.
pub mod Inside
