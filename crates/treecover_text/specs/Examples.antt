-- What is printed, as examples.
pub mod Printing
