-- Lemmas for the proofs of the loops.
pub mod Listed
pub mod Made
pub mod Row
pub mod Small
pub mod Total
pub mod Law
