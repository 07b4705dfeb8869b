-- What replies say, as examples.
pub mod Replies
