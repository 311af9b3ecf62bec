-- What the rows of a plan and of a recorded log say.
pub mod Decimal
pub mod Text
pub mod Fields
pub mod Values
pub mod Words
pub mod Several
pub mod Lists
pub mod Seconds
pub mod Strategies
pub mod Rows
pub mod Faults
pub mod Reader
pub mod Recorded
