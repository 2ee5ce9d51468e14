pub mod Answers
pub mod Lines
pub mod Questions
pub mod Read
pub mod Rows
pub mod Texts
