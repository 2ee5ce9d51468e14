pub mod Law
pub mod Parts
pub mod Counted
pub mod Records
pub mod Runs
pub mod Tables
