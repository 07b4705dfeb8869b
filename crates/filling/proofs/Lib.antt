-- Laws that join the tables to the theorems about covers.
pub mod Hits
pub mod Node
pub mod Steps
pub mod At
pub mod Progress
