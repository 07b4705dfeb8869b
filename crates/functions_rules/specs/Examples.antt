-- What drawings compute, and what the judge of functions answers, as examples.
pub mod Drawings
pub mod Reports
