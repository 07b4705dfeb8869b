-- What the functions of `filling` promise.
pub mod Inside
