-- What a row of a plan gives a second, and what the row of a second has of it.
pub mod Told
pub mod Written
