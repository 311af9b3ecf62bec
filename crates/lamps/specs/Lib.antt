-- Lamps and their sets, and the meanings of lamp heads.
pub mod Sets
pub mod Orders
pub mod Words
pub mod Bounds
pub mod Meanings
pub mod Chosen
