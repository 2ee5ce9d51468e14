pub mod Alike
pub mod Counted
