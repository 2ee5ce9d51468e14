pub mod Frames
pub mod Found
pub mod Speaking
pub mod Stands
pub mod Faults
