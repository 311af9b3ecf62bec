pub mod Cutting
pub mod Narrowing
pub mod Choosing
pub mod Spelling
pub mod Spaces
pub mod WrittenOut
pub mod WorkedLines
