-- What a legal cover is and which one is handed over, in reading order.
pub mod Lists
pub mod Capacity
pub mod Crossing
pub mod Match
pub mod Cover
pub mod Enumeration
pub mod Tradeoff
pub mod Choice
pub mod CoverSheet
pub mod Answer
pub mod Lending
pub mod Outcome
pub mod Promise
pub mod Demands
pub mod Examples
pub mod Inside
