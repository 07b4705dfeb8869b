-- Laws that the proofs of `result_sheets` cite.
pub mod Laws
