pub mod Names
pub mod Plain
pub mod Words
