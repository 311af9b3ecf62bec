-- The limits of figures, and what accepting a draft gives.
pub mod Limits
pub mod Draft
pub mod Causes
pub mod Judged
