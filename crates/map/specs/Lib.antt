-- What the functions of `map` promise.
pub mod Inside
