-- The rules of the strategies, and the meanings that their contracts give them.
pub mod Drawn
pub mod Alinea
pub mod Hourly
pub mod Limiter
pub mod Bounds
pub mod Meanings
pub mod Chosen
