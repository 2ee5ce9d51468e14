pub mod Filed
pub mod Numbers
pub mod Turned
