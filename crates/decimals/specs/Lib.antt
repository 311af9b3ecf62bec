-- Decimal digits, and the numbers that they write.
pub mod Digits
