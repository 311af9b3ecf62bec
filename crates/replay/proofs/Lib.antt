pub mod Rings
pub mod Buffers
pub mod Following
pub mod Playing
