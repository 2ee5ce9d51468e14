pub mod Bytes
pub mod Leasts
pub mod Writes
