-- What functions inside promise each other, and what the laws about them speak of.
pub mod Words
pub mod Best
pub mod Promises
pub mod Stored
