-- Document 01's specimens, and examples of exchanged inputs, of driven leaves, and of the greatest figures.
pub mod Specimens
pub mod Exchanges
pub mod Drivers
pub mod Reached
