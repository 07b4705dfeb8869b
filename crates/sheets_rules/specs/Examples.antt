-- What the judges of the two sheets answer, as examples.
pub mod Reports
