pub mod Written
pub mod Facts
pub mod Head
pub mod Images
pub mod Laws
pub mod Tables
