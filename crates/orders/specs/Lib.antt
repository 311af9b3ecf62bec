-- The rules of command lines, and what their contracts say.
pub mod Tokens
pub mod Faults
pub mod Lines
pub mod Orders
pub mod Reading
pub mod Worked
pub mod Laws
