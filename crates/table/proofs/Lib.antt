pub mod Shifts
pub mod Puts
pub mod Halves
pub mod Stand
pub mod More
pub mod Orders
pub mod Carried
pub mod Lasts
