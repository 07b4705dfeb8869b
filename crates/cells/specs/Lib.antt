-- What the functions of `cells` promise.
pub mod Inside
