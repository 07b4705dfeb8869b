-- The laws of functions, in reading order.
pub mod Words
pub mod Every
pub mod Pins
pub mod Reading
pub mod Places
pub mod Demands
pub mod Examples
