pub mod Cuts
pub mod Reading
pub mod Plain
pub mod Digits
