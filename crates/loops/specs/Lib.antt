-- The rules of the loops, and what their contracts say.
pub mod Lists
pub mod Bounds
pub mod Source
pub mod Rules
pub mod Kept
pub mod Held
