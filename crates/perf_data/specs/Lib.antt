pub mod Features
pub mod Questions
pub mod Texts
pub mod Lists
pub mod Says
