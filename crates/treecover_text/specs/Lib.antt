-- The text for an input of treecover.
pub mod Printed
pub mod Demands
pub mod Examples
pub mod Inside
