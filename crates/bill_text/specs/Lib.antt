-- What the functions of `bill_text` promise.
pub mod Inside
