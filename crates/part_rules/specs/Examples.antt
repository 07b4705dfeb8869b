-- Linked trees, part sheets and whole outcomes, as examples.
pub mod Linked
pub mod Outcomes
