-- The bill of a cover, in reading order.
pub mod Bill
pub mod Billed
pub mod Demands
