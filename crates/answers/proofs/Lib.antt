pub mod Appended
pub mod Drained
pub mod Loops
pub mod Tables
