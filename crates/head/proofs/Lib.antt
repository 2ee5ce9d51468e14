pub mod Tables
pub mod Writes
pub mod Entry
pub mod Entries
pub mod Whole
