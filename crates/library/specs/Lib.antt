-- What the functions of `library` promise.
pub mod Inside
