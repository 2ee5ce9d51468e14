pub mod Reading
pub mod Parts
pub mod Filling
pub mod Entries
pub mod Answered
pub mod Following
pub mod Trims
