-- What a drawing computes, the function sheet, and what its judge answers, in reading order.
pub mod Function
pub mod FunctionSheet
pub mod Report
pub mod Demands
pub mod Examples
