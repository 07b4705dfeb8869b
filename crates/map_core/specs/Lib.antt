-- What the functions of `map_core` promise.
pub mod Inside
