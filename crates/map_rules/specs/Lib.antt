-- What map and list reply, and how it is tied to an outcome.
pub mod Public
pub mod Examples
