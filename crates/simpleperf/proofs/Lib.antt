pub mod Items
pub mod Counted
pub mod Runs
pub mod Sized
pub mod Views
pub mod Consecutive
