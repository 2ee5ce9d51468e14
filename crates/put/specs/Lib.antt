pub mod Overlay
pub mod Puts
pub mod Appends
