-- What rings keep, and what copies of them come to.
pub mod Codes
pub mod Kept
pub mod Copied
pub mod Rings
